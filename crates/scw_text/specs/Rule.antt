-- The numbers of the rules of refusal, as messages show them.
use Rattle.std.specs.Prelude.{ℕ}
use Rattle.scw_text.specs.declared.rule.Rule.{Rule}
use Rattle.scw_text.specs.declared.rule.Rule.TheVariants.{BadChar, OpenComment, OpenText, BadEscape, BadNumber, BadName, LongText, LeftOutToken, Unexpected, MixedAssoc, TooNested, Range, NamedArgument, FreeUnderscore, DoubleName, NotFound, TwoBindings, NotMember, NoAccess, Forward, NotStable, WrongKind, LongBinary, Cyclic, TooDeep, Mismatch, WrongCount, NoAlternative, TwoAlternatives, NoInstance, NoParamType, NoImplicit, TwoImplicits, Diverging, NotVariable, BadPattern, BadNew, GenericArray, BadSuper, TypeCount, Bounds, BadParent, TwiceParent, Abstract, BadOverride, ErasedClash, Variance, BinaryClash, BadCase, BadImplicit}

abbrev pub number_of : Rule → ℕ
number_of BadChar = 1
number_of OpenComment = 2
number_of OpenText = 3
number_of BadEscape = 4
number_of BadNumber = 5
number_of BadName = 6
number_of LongText = 7
number_of LeftOutToken = 8
number_of Unexpected = 10
number_of MixedAssoc = 11
number_of TooNested = 12
number_of Range = 13
number_of NamedArgument = 14
number_of FreeUnderscore = 15
number_of DoubleName = 20
number_of NotFound = 21
number_of TwoBindings = 22
number_of NotMember = 23
number_of NoAccess = 24
number_of Forward = 25
number_of NotStable = 26
number_of WrongKind = 27
number_of LongBinary = 28
number_of Cyclic = 30
number_of TooDeep = 31
number_of Mismatch = 32
number_of WrongCount = 33
number_of NoAlternative = 34
number_of TwoAlternatives = 35
number_of NoInstance = 36
number_of NoParamType = 37
number_of NoImplicit = 38
number_of TwoImplicits = 39
number_of Diverging = 40
number_of NotVariable = 41
number_of BadPattern = 42
number_of BadNew = 43
number_of GenericArray = 44
number_of BadSuper = 45
number_of TypeCount = 46
number_of Bounds = 47
number_of BadParent = 50
number_of TwiceParent = 51
number_of Abstract = 52
number_of BadOverride = 53
number_of ErasedClash = 54
number_of Variance = 55
number_of BinaryClash = 56
number_of BadCase = 57
number_of BadImplicit = 58
