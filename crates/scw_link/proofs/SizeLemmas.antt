-- Sizes are those of the bytes that the format writes.
use Rattle.std.proofs.Common.{append_assoc, ◌≡◌, Bool, ℕ, zero, suc, ◌+◌, ◌*◌, List, [], ◌∷◌, ◌++◌, length, refl, ap, sym, ◌∙◌, arith, length-append}
use Rattle.std.specs.List.{flat_map, fold, sum_by}
use Rattle.std.proofs.lemmas.List.Concat.{length-flat_map}
use Rattle.scw_text.specs.Modified.{modified}
use Rattle.scw_classfile.specs.declared.class_file.Attribute.{Attribute, out-Attribute}
use Rattle.scw_classfile.specs.declared.class_file.AttrBody.{AttrBody}
use Rattle.scw_classfile.specs.declared.class_file.AttrBody.TheVariants as body
use Rattle.scw_classfile.specs.declared.class_file.ClassFile.{ClassFile}
use Rattle.scw_classfile.specs.declared.class_file.MemberInfo.{MemberInfo}
use Rattle.scw_classfile.specs.declared.pool_entry.PoolEntry.{PoolEntry}
use Rattle.scw_classfile.specs.declared.pool_entry.PoolEntry.TheVariants as entry
use Rattle.scw_classfile.specs.declared.pool_entry.EntryKind.{EntryKind}
use Rattle.scw_classfile.specs.Pool.{entry_bytes, pool}
use Rattle.scw_classfile.specs.Codec.{counted, u2}
use Rattle.scw_classfile.specs.Code.{handler}
use Rattle.scw_classfile.specs.declared.class_file.Handler.{Handler}
use Rattle.scw_classfile.specs.Format.{class, flags, start, tail, other, field, interface, method, code, own_bytes, body_bytes, info_of}
use Rattle.scw_code.specs.declared.instr.Instr.{Instr}
use Rattle.scw_code.specs.Code.{code_bytes_from, size_at}
use Rattle.scw_code.specs.Instr.{instr_bytes}
use Rattle.scw_code.specs.Jump.{starts}
use Rattle.scw_classfile.specs.declared.class_file.Code.{Code, out-Code}
use Rattle.scw_link.specs.FileBytes.{bytes_before_methods}
use Rattle.scw_link.specs.Sizes.{entry_size, info_size, other_size, end_of, behind_code, body_size, own_size, field_size, method_size, before_methods}

size-entry : (e : PoolEntry) → length (entry_bytes e) ≡ entry_size e
unfolding entry_bytes
size-entry (entry.Utf8 us) = omega arith
size-entry (entry.Integer n) = refl
size-entry (entry.Float n) = refl
size-entry (entry.Long n) = refl
size-entry (entry.Double n) = refl
size-entry (entry.Class n) = refl
size-entry (entry.Str n) = refl
size-entry (entry.MethodType n) = refl
size-entry (entry.Fieldref c n) = refl
size-entry (entry.Methodref c n) = refl
size-entry (entry.InterfaceMethodref c n) = refl
size-entry (entry.NameAndType n d) = refl
size-entry (entry.InvokeDynamic b n) = refl
size-entry (entry.MethodHandle k n) = refl
size-entry entry.Second = refl

sum-same : {X : Type 0} (f g : X → ℕ) (a : ℕ) (xs : List X) → ((x : X) → f x ≡ g x) → fold (λ b x. b + f x) a xs ≡ fold (λ b x. b + g x) a xs
sum-same f g a [] h = refl
sum-same f g a (x ∷ xs) h = ap (λ n. fold (λ b y. b + f y) (a + n) xs) (h x) ∙ sum-same f g (a + g x) xs h

-- pieces of known sizes
size-pieces : {X : Type 0} (f : X → List ℕ) (g : X → ℕ) (xs : List X) → ((x : X) → length (f x) ≡ g x) → length (flat_map f xs) ≡ sum_by g xs
size-pieces f g xs h = length-flat_map f xs ∙ sum-same (λ x. length (f x)) g 0 xs h

size-info : (b : AttrBody) → 6 + length (info_of b) ≡ info_size b
size-info (body.Code c) = refl
size-info (body.Other bs) = refl

size-other : (major : ℕ) (kinds : List EntryKind) (a : Attribute) → length ((other major kinds).spell a) ≡ other_size a
size-other major kinds a = let e = size-info a.body in omega (arith, e)

size-code : (place : ℕ) (is : List Instr) → place + length (code_bytes_from place is) ≡ end_of place is
size-code place [] = omega arith
size-code place (i ∷ is) = let rest = size-code (place + size_at place i) is in omega (arith, rest, length-append (instr_bytes place i) (code_bytes_from (place + size_at place i) is))

count-same : {X : Type 0} (k a : ℕ) (xs : List X) → fold (λ b x. b + k) a xs ≡ a + k * length xs
count-same k a [] = omega arith
count-same k a (x ∷ xs) = let rest = count-same k (a + k) xs in rest ∙ omega arith

-- pieces of one size
size-equal : {X : Type 0} (f : X → List ℕ) (k : ℕ) (xs : List X) → ((x : X) → length (f x) ≡ k) → length (flat_map f xs) ≡ k * length xs
size-equal f k xs h = size-pieces f (λ x. k) xs h ∙ (count-same k 0 xs ∙ omega arith)

size-handlers : (major : ℕ) (kinds : List EntryKind) (starts : List Bool) (hs : List Handler) → length (flat_map (handler major kinds starts).spell hs) ≡ 8 * length hs
size-handlers major kinds starts hs = size-equal (handler major kinds starts).spell 8 hs (λ h. refl)

size-body : (b : AttrBody) → 2 + length (body_bytes b) ≡ body_size b
unfolding code
size-body (body.Other bs) = omega arith
size-body (body.Code c) =
    let layer = out-Code c in
    let code_bytes = size-code 0 layer.code in
    let handlers = size-handlers 0 [] (starts layer.code) layer.handlers in
    let attributes = size-pieces (other 0 []).spell other_size layer.attributes (size-other 0 []) in
    simp length-append (omega (arith, code_bytes, handlers, attributes))

size-own : (a : Attribute) → length (own_bytes a) ≡ own_size a
size-own a = let e = size-body a.body in omega (arith, e)

size-field : (m : MemberInfo) → length ((field 0 []).spell m) ≡ field_size m
size-field m = let e = size-pieces (other 0 []).spell other_size m.attributes (size-other 0 []) in omega (arith, e)

pub size-method : (major : ℕ) (kinds : List EntryKind) (m : MemberInfo) → length ((method major kinds).spell m) ≡ method_size m
size-method major kinds m = let e = size-pieces own_bytes own_size m.attributes size-own in omega (arith, e)

pub size-before : (c : ClassFile) → length (bytes_before_methods c) ≡ before_methods c
size-before c =
    let pool = size-pieces entry_bytes entry_size c.pool size-entry in
    let interfaces = size-equal (interface 0 []).spell 2 c.interfaces (λ n. refl) in
    let fields = size-pieces (field 0 []).spell field_size c.fields size-field in
    simp length-append (omega (arith, pool, interfaces, fields))

joined : (s p f t r i d m ms os : List ℕ) → s ++ (p ++ (f ++ (t ++ (r ++ (i ++ (d ++ ((m ++ ms) ++ os))))))) ≡ (s ++ (p ++ (f ++ (t ++ (r ++ (i ++ (d ++ m))))))) ++ (ms ++ os)
joined s p f t r i d m ms os = simp append_assoc

-- the bytes of a class file are those up to its methods, its methods, and its attributes
pub bytes-whole : (c : ClassFile) → class.spell c ≡ bytes_before_methods c ++ (flat_map (method 0 []).spell c.methods ++ (counted (other 0 [])).spell c.attributes)
unfolding class tail
bytes-whole c =
    joined (start.spell (c.minor, c.major)) ((pool c.major).spell c.pool) (flags.spell c.flags) (u2.spell c.this) (u2.spell c.parent)
    ((counted (interface 0 [])).spell c.interfaces) ((counted (field 0 [])).spell c.fields) (u2.spell (length c.methods))
    (flat_map (method 0 []).spell c.methods) ((counted (other 0 [])).spell c.attributes)
