-- The classes, names and descriptors of the machine's own methods.
use Rattle.std.specs.Prelude.{ℕ, List, codes}
use Rattle.scw_frame.specs.declared.operation.BuiltIn.{BuiltIn}
use Rattle.scw_frame.specs.declared.operation.BuiltIn.TheVariants as built
use Rattle.scw_frame.specs.declared.operation.Primitive.{Primitive}
use Rattle.scw_frame.specs.declared.operation.Primitive.TheVariants as primitive
use Rattle.scw_link.specs.declared.built_in_method.Owner.{Owner}
use Rattle.scw_link.specs.declared.built_in_method.Owner.TheVariants as owner

abbrev pub owner_of : BuiltIn → Owner
owner_of built.ObjectInit = owner.Object
owner_of built.Equals = owner.Object
owner_of built.ToString = owner.Object
owner_of built.StringLength = owner.String
owner_of built.StringCharAt = owner.String
owner_of built.Substring = owner.String
owner_of built.StringIsEmpty = owner.String
owner_of built.CompareTo = owner.String
owner_of built.ThrowableInit = owner.AnyThrowable
owner_of built.ThrowableInitMessage = owner.AnyThrowable
owner_of built.GetMessage = owner.Throwable
owner_of built.ThrowableToString = owner.Throwable
owner_of built.Print = owner.Run
owner_of built.Concat = owner.Run
owner_of built.Unit = owner.Run
owner_of (built.Box p) = owner.Run
owner_of (built.Unbox p) = owner.Run
owner_of built.Same = owner.Run

abbrev pub name_of : BuiltIn → List ℕ
name_of built.ObjectInit = codes "<init>"
name_of built.Equals = codes "equals"
name_of built.ToString = codes "toString"
name_of built.StringLength = codes "length"
name_of built.StringCharAt = codes "charAt"
name_of built.Substring = codes "substring"
name_of built.StringIsEmpty = codes "isEmpty"
name_of built.CompareTo = codes "compareTo"
name_of built.ThrowableInit = codes "<init>"
name_of built.ThrowableInitMessage = codes "<init>"
name_of built.GetMessage = codes "getMessage"
name_of built.ThrowableToString = codes "toString"
name_of built.Print = codes "print"
name_of built.Concat = codes "concat"
name_of built.Unit = codes "unit"
name_of (built.Box p) = codes "box"
name_of (built.Unbox p) = codes "unbox"
name_of built.Same = codes "same"

abbrev pub box_descriptor : Primitive → List ℕ
box_descriptor primitive.Boolean = codes "(Z)Ljava/lang/Boolean;"
box_descriptor primitive.Char = codes "(C)Ljava/lang/Character;"
box_descriptor primitive.Int = codes "(I)Ljava/lang/Integer;"
box_descriptor primitive.Long = codes "(J)Ljava/lang/Long;"

abbrev pub unbox_descriptor : Primitive → List ℕ
unbox_descriptor primitive.Boolean = codes "(Ljava/lang/Object;)Z"
unbox_descriptor primitive.Char = codes "(Ljava/lang/Object;)C"
unbox_descriptor primitive.Int = codes "(Ljava/lang/Object;)I"
unbox_descriptor primitive.Long = codes "(Ljava/lang/Object;)J"

abbrev pub descriptor_of : BuiltIn → List ℕ
descriptor_of built.ObjectInit = codes "()V"
descriptor_of built.Equals = codes "(Ljava/lang/Object;)Z"
descriptor_of built.ToString = codes "()Ljava/lang/String;"
descriptor_of built.StringLength = codes "()I"
descriptor_of built.StringCharAt = codes "(I)C"
descriptor_of built.Substring = codes "(II)Ljava/lang/String;"
descriptor_of built.StringIsEmpty = codes "()Z"
descriptor_of built.CompareTo = codes "(Ljava/lang/String;)I"
descriptor_of built.ThrowableInit = codes "()V"
descriptor_of built.ThrowableInitMessage = codes "(Ljava/lang/String;)V"
descriptor_of built.GetMessage = codes "()Ljava/lang/String;"
descriptor_of built.ThrowableToString = codes "()Ljava/lang/String;"
descriptor_of built.Print = codes "(Ljava/lang/String;)V"
descriptor_of built.Concat = codes "(Ljava/lang/String;Ljava/lang/String;)Ljava/lang/String;"
descriptor_of built.Unit = codes "()Lscalaw/rt/Unit;"
descriptor_of (built.Box p) = box_descriptor p
descriptor_of (built.Unbox p) = unbox_descriptor p
descriptor_of built.Same = codes "(Ljava/lang/Object;Ljava/lang/Object;)I"
