-- The grammar of descriptors, a constructor for each production: JVMS 4.3.2 and 4.3.3. As in the test
-- that the code makes, a class name is any text without `;` that isn't empty.
use Rattle.std.specs.Prelude.{ℕ, ◌<◌, false, ◌≡◌, List, [], ◌∷◌, ◌++◌, length, codes, IsTrue}
use Rattle.std.specs.List.{list_any}
use Rattle.scw_classfile.specs.Descriptor.{one_of, is_base}

-- the text can stand between `L` and `;`
pub record IsClassName (name : List ℕ) : Type 0 where
  pub some : 0 < length name
  pub lacks_end : list_any (one_of (codes ";")) name ≡ false

-- FieldDescriptor, which is a FieldType: a BaseType, an ObjectType or an ArrayType
pub data FieldDescriptor : List ℕ → Type 0 where
  base : (c : ℕ) → IsTrue (is_base c) → FieldDescriptor (c ∷ [])
  object : (name : List ℕ) → IsClassName name → FieldDescriptor (codes "L" ++ (name ++ codes ";"))
  array : (component : List ℕ) → FieldDescriptor component → FieldDescriptor (codes "[" ++ component)

-- any number of ParameterDescriptors
pub data ParameterDescriptors : List ℕ → Type 0 where
  none : ParameterDescriptors []
  more : (first others : List ℕ) → FieldDescriptor first → ParameterDescriptors others → ParameterDescriptors (first ++ others)

-- ReturnDescriptor
pub data ReturnDescriptor : List ℕ → Type 0 where
  void : ReturnDescriptor (codes "V")
  field : (us : List ℕ) → FieldDescriptor us → ReturnDescriptor us

-- MethodDescriptor
pub data MethodDescriptor : List ℕ → Type 0 where
  method : (parameters returned : List ℕ) → ParameterDescriptors parameters → ReturnDescriptor returned → MethodDescriptor (codes "(" ++ (parameters ++ (codes ")" ++ returned)))
