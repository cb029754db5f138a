-- Each instruction of a method is fine with its opcode and operands, by the index that was found for what it names.
use Rattle.std.proofs.Common.{◌≡◌, ℕ, ◌+◌, ◌-◌, ◌<◌, ◌≤◌, ℤ, pos, neg_ℤ, Bool, true, false, List, [], ◌∷◌, ◌++◌, length, Option, Some, None, refl, sym, ap, ◌∙◌, subst, arith, append-nil, append_assoc}
use Rattle.scw_code.specs.declared.instr.Instr as any
use Rattle.scw_code.specs.declared.form.Form.TheVariants as form
use Rattle.scw_code.specs.Opcode.{form_of}
use Rattle.scw_classfile.specs.declared.index.Expected.TheVariants as expected
use Rattle.scw_classfile.specs.declared.pool_entry.EntryKind.{EntryKind}
use Rattle.scw_classfile.specs.declared.pool_entry.EntryKind.TheVariants as kind
use Rattle.scw_classfile.specs.Codec.{is_none}
use Rattle.scw_classfile.specs.Kinds.{index_flaw, kinds_of, lets_some}
use Rattle.scw_core.specs.Program.{in_members, text_at}
use Rattle.scw_core.specs.Text.{units_of_name}
use Rattle.scw_core.specs.declared.class.Member.{Member}
use Rattle.scw_core.specs.declared.operator.TextId.{TextId}
use Rattle.scw_gen.specs.declared.instr.BuiltIn.{BuiltIn}
use Rattle.scw_gen.specs.declared.instr.BuiltIn.TheVariants as built
use Rattle.scw_gen.specs.declared.instr.Constant.{Constant}
use Rattle.scw_gen.specs.declared.instr.Constant.TheVariants as constant
use Rattle.scw_gen.specs.declared.instr.Instr.{Instr}
use Rattle.scw_gen.specs.declared.instr.Instr.TheVariants as instr
use Rattle.scw_gen.specs.declared.named.Named.{Named}
use Rattle.scw_gen.specs.declared.named.Named.TheVariants.{Integer, Long, Text, Class, Method}
use Rattle.scw_gen.specs.declared.pool.MethodName.{MethodName}
use Rattle.scw_gen.specs.Outcome.{◌>>=◌}
use Rattle.scw_gen.specs.Around.{Around}
use Rattle.scw_gen.specs.Encode.{calling, encoded, with_index}
use Rattle.scw_gen.specs.Instr.{size_of}
use Rattle.scw_gen.specs.Name.{built_in_name, method_name, object_init, this_init}
use Rattle.scw_gen.specs.Named.{encoded_from, index_of_named, named_by, named_constant, named_member, named_text}
use Rattle.scw_gen.specs.Pool.{found, integer_index, string_index}
use Rattle.scw_gen.proofs.Steps.{bound}
use Rattle.scw_gen.proofs.TextKinds.{index_right}
use Rattle.scw_gen.proofs.PoolIndex.{found-is}
use Rattle.scw_gen.proofs.IndexNames.{Names, names_class, names_integer, names_long, names_method, names_string}
use Rattle.scw_gen.proofs.Landing.{Low, Right}
use Rattle.scw_gen.proofs.EncodedFine.{Fine, arithmetic_fine, bare_fine, branch_fine, division_fine, far-back, far-forward, far_fine, index_fine, jump_fine, load_fine, low_fine, near-back, near-forward, number_fine, returning_fine, store_fine}

-- ---- one instruction

module _ (g : Around) (few : length g.pool ≤ 65534) where
  abbrev K : List EntryKind
  K = kinds_of g.pool

  -- an index that `ldc` may load
  record Constant_at (index : ℕ) : Type 0 where
    fits : index < 65536
    right : is_none (index_flaw 52 K expected.Constant index 1) ≡ true

  constant_from : (k : EntryKind) (index : ℕ) → lets_some 52 expected.Constant (Some k) ≡ true → Names K k index → Constant_at index
  constant_from k index lets n = record { fits = n.few; right = index_right K expected.Constant index 1 k n.at lets }

  -- what names a text, a number and a method, by the index that was found
  text_index : (t : TextId) (n : Named) (index : ℕ) → named_text g t ≡ Some n → index_of_named g.pool n ≡ Some index → (us : List ℕ) × (text_at g.table t ≡ Some us) × (found (string_index g.pool us) ≡ Some index)
  text_index t n index h k =
      let b = bound (text_at g.table t) (λ us. Some (Text us)) n h in
      let same : Text b.0 ≡ n = (let e = b.2 in cc) in
      (b.0, b.1, ap (index_of_named g.pool) same ∙ k)

  integer_index_of : (c : ℕ) (n : Named) (index : ℕ) → Some (Integer c) ≡ Some n → index_of_named g.pool n ≡ Some index → found (integer_index g.pool c) ≡ Some index
  integer_index_of c n index h k = let same : Integer c ≡ n = cc in ap (index_of_named g.pool) same ∙ k

  constant_at : (c : Constant) (n : Named) (index : ℕ) → named_constant g c ≡ Some n → index_of_named g.pool n ≡ Some index → Constant_at index
  constant_at (constant.Int c) n index h k = constant_from kind.Integer index refl (names_integer g.pool few c index (integer_index_of c n index h k))
  constant_at (constant.Text t) n index h k = let u = text_index t n index h k in constant_from kind.Str index refl (names_string g.pool few u.0 index u.2)

  constant_low : (c : Constant) (n : Named) (index : ℕ) → named_constant g c ≡ Some n → index_of_named g.pool n ≡ Some index → Low g.table g.pool c → index < 256
  constant_low (constant.Int c) n index h k low = let f = found-is (integer_index g.pool c) index (integer_index_of c n index h k) in omega (arith, f.0, low)
  constant_low (constant.Text t) n index h k low =
      let u = text_index t n index h k in
      let f = found-is (string_index g.pool u.0) index u.2 in
      let le = low u.0 u.1 in omega (arith, f.0, le)

  method_at : (m : MethodName) (n : Named) (index : ℕ) → Some (Method m) ≡ Some n → index_of_named g.pool n ≡ Some index → Names K kind.Methodref index
  method_at m n index h k = let same : Method m ≡ n = cc in names_method g.pool few m index (ap (index_of_named g.pool) same ∙ k)

  member_at : (m : Option Member) (n : Named) (index : ℕ) → named_member g m ≡ Some n → index_of_named g.pool n ≡ Some index → Names K kind.Methodref index
  member_at None n index h k = absurd (cc)
  member_at (Some m) n index h k = let b = bound (method_name g m) (λ x. Some (Method x)) n h in method_at b.0 n index b.2 k

  module _ (leads : ℤ → Bool) (at : ℕ) where
    abbrev FineHere : any.Instr → ℕ → Type 0
    FineHere i n = Fine K leads at i n

    -- calls, classes and numbers, by the entry that they name
    called_fine : (b : BuiltIn) (index : ℕ) → Names K kind.Methodref index → FineHere (with_index (calling b) index) 3
    unfolding form_of
    called_fine built.ToString index n = index_fine K leads at 182 index form.VirtualCall expected.Methodref refl (omega arith) refl refl refl n.few (index_right K expected.Methodref index 1 kind.Methodref n.at refl)
    called_fine _ index n = index_fine K leads at 184 index form.DirectCall expected.DirectMethodref refl (omega arith) refl refl refl n.few (index_right K expected.DirectMethodref index 1 kind.Methodref n.at refl)

    direct_fine : (index : ℕ) → Names K kind.Methodref index → FineHere (with_index 183 index) 3
    unfolding form_of
    direct_fine index n = index_fine K leads at 183 index form.DirectCall expected.DirectMethodref refl (omega arith) refl refl refl n.few (index_right K expected.DirectMethodref index 1 kind.Methodref n.at refl)

    bit_fine : (b : Bool) → FineHere (encoded (instr.LongBit b) 0) 1
    unfolding form_of
    bit_fine true = bare_fine K leads at 10 refl (omega arith)
    bit_fine false = bare_fine K leads at 9 refl (omega arith)

    class_fine : (name : List ℕ) (n : Named) (index : ℕ) → Some (Class name) ≡ Some n → index_of_named g.pool n ≡ Some index → FineHere (with_index 187 index) 3
    unfolding form_of
    class_fine name n index h k =
        let same : Class name ≡ n = cc in
        let c = names_class g.pool few name index (ap (index_of_named g.pool) same ∙ k) in
        index_fine K leads at 187 index form.Class expected.Class refl (omega arith) refl refl refl c.few (index_right K expected.Class index 1 _ c.at refl)

    long_fine : (c : ℕ) (n : Named) (index : ℕ) → Some (Long c) ≡ Some n → index_of_named g.pool n ≡ Some index → FineHere (with_index 20 index) 3
    unfolding form_of
    long_fine c n index h k =
        let same : Long c ≡ n = cc in
        let l = names_long g.pool few c index (ap (index_of_named g.pool) same ∙ k) in
        index_fine K leads at 20 index form.LongConstant expected.LongConstant refl (omega arith) refl refl refl l.few (index_right K expected.LongConstant index 1 kind.Long l.at refl)

    -- where places that are `ok` are led to
    pub encoded-fine : (ok : ℕ → Bool) → ((way : ℕ) → ok (at + way) ≡ true → leads (pos way) ≡ true) → ((way : ℕ) → way ≤ at → ok (at - way) ≡ true → leads (neg_ℤ (pos way)) ≡ true)
        → (i : Instr) (n : Named) (index : ℕ) → named_by g i ≡ Some n → index_of_named g.pool n ≡ Some index → Right g.table g.pool ok at i → FineHere (encoded i index) (size_of i)
    unfolding form_of
    encoded-fine ok to back (instr.Number z) n index h k r = number_fine K leads at z r
    encoded-fine ok to back (instr.Constant c) n index h k r = low_fine K leads at 18 index refl (omega arith) (constant_low c n index h k r) (constant_at c n index h k).right
    encoded-fine ok to back (instr.WideConstant c) n index h k r =
        let a = constant_at c n index h k in index_fine K leads at 19 index form.WideConstant expected.Constant refl (omega arith) refl refl refl a.fits a.right
    encoded-fine ok to back (instr.LongBit b) n index h k r = bit_fine b
    encoded-fine ok to back (instr.LongConstant c) n index h k r = long_fine c n index h k
    encoded-fine ok to back (instr.Load w s) n index h k r = load_fine K leads at w s r
    encoded-fine ok to back (instr.Store w s) n index h k r = store_fine K leads at w s r
    encoded-fine ok to back (instr.Arithmetic w o) n index h k r = arithmetic_fine K leads at w o
    encoded-fine ok to back (instr.Division w o) n index h k r = division_fine K leads at w o
    encoded-fine ok to back instr.CompareLongs n index h k r = bare_fine K leads at 148 refl (omega arith)
    encoded-fine ok to back instr.Pop n index h k r = bare_fine K leads at 87 refl (omega arith)
    encoded-fine ok to back instr.PopTwo n index h k r = bare_fine K leads at 88 refl (omega arith)
    encoded-fine ok to back instr.Dup n index h k r = bare_fine K leads at 89 refl (omega arith)
    encoded-fine ok to back (instr.Branch c by way) n index h k r = branch_fine K leads at c by (pos way) (near-forward way r.1) (to way r.0)
    encoded-fine ok to back (instr.Goto way) n index h k r = jump_fine K leads at 167 (pos way) refl (omega arith) (near-forward way r.1) (to way r.0)
    encoded-fine ok to back (instr.FarGoto way) n index h k r = far_fine K leads at 200 (pos way) refl (omega arith) (far-forward way r.1) (to way r.0)
    encoded-fine ok to back (instr.Back way) n index h k r = jump_fine K leads at 167 (neg_ℤ (pos way)) refl (omega arith) (near-back way r.2) (back way r.1 r.0)
    encoded-fine ok to back (instr.FarBack way) n index h k r = far_fine K leads at 200 (neg_ℤ (pos way)) refl (omega arith) (far-back way r.2) (back way r.1 r.0)
    encoded-fine ok to back (instr.Return w) n index h k r = returning_fine K leads at w
    encoded-fine ok to back instr.ReturnNothing n index h k r = bare_fine K leads at 177 refl (omega arith)
    encoded-fine ok to back (instr.Call x) n index h k r = called_fine built.ToString index (member_at (in_members g.class.members x) n index h k)
    encoded-fine ok to back (instr.CallBuiltIn b) n index h k r = called_fine b index (method_at (built_in_name b) n index h k)
    encoded-fine ok to back instr.InitObject n index h k r = direct_fine index (method_at object_init n index h k)
    encoded-fine ok to back instr.InitThis n index h k r = direct_fine index (method_at (this_init g) n index h k)
    encoded-fine ok to back instr.New n index h k r = class_fine (units_of_name g.class.binary_name) n index h k

-- ---- all of them

-- instructions, and the same with their opcodes and operands
pub data Encodes (g : Around) : List Instr → List any.Instr → Type 0 where
  ended : Encodes g [] []
  one : (i : Instr) (n : Named) (index : ℕ) (is : List Instr) (code : List any.Instr) → named_by g i ≡ Some n → index_of_named g.pool n ≡ Some index → Encodes g is code → Encodes g (i ∷ is) (encoded i index ∷ code)

pub encodes-from : (g : Around) (code out : List any.Instr) (is : List Instr) → encoded_from g code is ≡ Some out → (rest : List any.Instr) × (code ++ rest ≡ out) × Encodes g is rest
unfolding encoded_from
encodes-from g code out [] h = let same : code ≡ out = cc in ([], append-nil code ∙ same, ended)
encodes-from g code out (i ∷ is) h =
    let b = bound (named_by g i) (λ n. index_of_named g.pool n >>= λ index. encoded_from g (code ++ encoded i index ∷ []) is) out h in
    let c = bound (index_of_named g.pool b.0) (λ index. encoded_from g (code ++ encoded i index ∷ []) is) out b.2 in
    let r = encodes-from g (code ++ encoded i c.0 ∷ []) out is c.2 in
    (encoded i c.0 ∷ r.0, sym (append_assoc code (encoded i c.0 ∷ []) r.0) ∙ r.1, one i b.0 c.0 is r.0 b.1 c.1 r.2)

pub encodes : (g : Around) (is : List Instr) (code : List any.Instr) → encoded_from g [] is ≡ Some code → Encodes g is code
encodes g is code h = let r = encodes-from g [] code is h in let e = r.1 in subst (Encodes g is) e r.2
