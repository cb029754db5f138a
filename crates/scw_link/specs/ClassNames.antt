-- The binary names of the machine's own classes: JVMS 4.2.1.
use Rattle.std.specs.Prelude.{ℕ, List, codes}
use Rattle.scw_link.specs.declared.built_in_class.ClassName.{ClassName}
use Rattle.scw_link.specs.declared.built_in_class.ClassName.TheVariants as name

abbrev pub text_of : ClassName → List ℕ
text_of name.Object = codes "java/lang/Object"
text_of name.String = codes "java/lang/String"
text_of name.Integer = codes "java/lang/Integer"
text_of name.Long = codes "java/lang/Long"
text_of name.Character = codes "java/lang/Character"
text_of name.Boolean = codes "java/lang/Boolean"
text_of name.Unit = codes "scalaw/rt/Unit"
text_of name.Run = codes "scalaw/rt/Run"
text_of name.Throwable = codes "java/lang/Throwable"
text_of name.Exception = codes "java/lang/Exception"
text_of name.Runtime = codes "java/lang/RuntimeException"
text_of name.Arithmetic = codes "java/lang/ArithmeticException"
text_of name.ClassCast = codes "java/lang/ClassCastException"
text_of name.NullPointer = codes "java/lang/NullPointerException"
text_of name.IndexOutOfBounds = codes "java/lang/IndexOutOfBoundsException"
text_of name.ArrayIndexOutOfBounds = codes "java/lang/ArrayIndexOutOfBoundsException"
text_of name.StringIndexOutOfBounds = codes "java/lang/StringIndexOutOfBoundsException"
text_of name.NegativeArraySize = codes "java/lang/NegativeArraySizeException"
text_of name.ArrayStore = codes "java/lang/ArrayStoreException"
text_of name.IllegalArgument = codes "java/lang/IllegalArgumentException"
text_of name.IllegalState = codes "java/lang/IllegalStateException"
text_of name.UnsupportedOperation = codes "java/lang/UnsupportedOperationException"
text_of name.NoSuchElement = codes "java/util/NoSuchElementException"
text_of name.MatchError = codes "scala/MatchError"
