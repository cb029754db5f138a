-- The program to which the file of a class is linked.
use Rattle.std.proofs.Common.{◌≡◌, ℕ, suc, ◌+◌, ◌≤◌, Bool, true, false, cond, List, [], ◌∷◌, ◌++◌, Option, Some, None, slice_get, position, refl, sym, ap, ◌∙◌, subst, arith, codes}
use Rattle.std.specs.Prelude.{nat_le}
use Rattle.std.specs.Option.{option_map}
use Rattle.std.proofs.lemmas.Bool.{and_from, eqb-true}
use Rattle.std.proofs.lemmas.Option.{same_Some, none-some, slice_get-map}
use Rattle.scw_text.specs.declared.number.SymId.{SymId}
use Rattle.scw_classfile.specs.declared.class_file.ClassFile.{ClassFile}
use Rattle.scw_core.specs.Program as core
use Rattle.scw_core.specs.Program.{in_members, look}
use Rattle.scw_core.specs.Text.{units_of_name}
use Rattle.scw_core.specs.Tree.{Tree}
use Rattle.scw_core.specs.Types.{same_symbol}
use Rattle.scw_core.specs.declared.class.CoreClass.{CoreClass}
use Rattle.scw_core.specs.declared.class.Member.{Member}
use Rattle.scw_frame.specs.declared.program.Method as machine
use Rattle.scw_frame.specs.declared.program.Program.{Program}
use Rattle.scw_frame.specs.declared.program.Target.TheVariants as target
use Rattle.scw_frame.specs.declared.value.ValueKind.TheVariants as value
use Rattle.scw_gen.specs.Outcome.{◌>>=◌}
use Rattle.scw_gen.specs.Around.{Around}
use Rattle.scw_gen.specs.Excess.{excess_of}
use Rattle.scw_gen.specs.Generate.{Made, around, file, file_with, made, short}
use Rattle.scw_gen.specs.Instr.{bytes_of}
use Rattle.scw_gen.specs.Method.{Method, Start, body_code, code_of_body, constructor, far, getter, is_method, method_in, method_of, method_with, near, start_of}
use Rattle.scw_gen.specs.Name.{descriptor, described, method_name, own_method}
use Rattle.scw_gen.specs.Room.{locals_of, stack_of}
use Rattle.scw_gen.specs.declared.instr.Instr.{Instr}
use Rattle.scw_gen.specs.declared.method.TheConstants.{MAX_NEAR}
use Rattle.scw_gen.specs.declared.pool.MethodName.{MethodName}
use Rattle.scw_gen.proofs.PoolWritable.{described-is}
use Rattle.scw_gen.proofs.Steps.{bound}
use Rattle.scw_link.specs.Classes.{class_number, parents, superclasses}
use Rattle.scw_link.specs.Descriptor.{parameter_kinds}
use Rattle.scw_link.specs.Linked.{getter_target, has_main, is_code, launch_code, launcher, linked, outside, program_with}
use Rattle.scw_link.specs.Linked.{main_method as main_named}
use Rattle.scw_link.specs.Members.{target_in}
use Rattle.scw_link.specs.Methods.{file_methods, methods_from, receiver}
use Rattle.scw_link.specs.Names.{and_then}
use Rattle.scw_link.specs.Resolve as resolve
use Rattle.scw_link.specs.Selectors.{main_selector, selectors_of}
use Rattle.scw_link.specs.Site.{Selector}
use Rattle.scw_link.specs.Sizes.{before_methods}
use Rattle.scw_back.proofs.DescriptorKinds.{Read, descriptor_read, own_unended}
use Rattle.scw_back.proofs.Firsts.{First, find-first, first-find, first-position, get-front, position-first}
use Rattle.scw_back.proofs.LinkedClasses as classes
use Rattle.scw_back.proofs.LinkedClasses.{accessor_target, arithmetic_class, lines, own_class, own_number, own_target, parents_are}
use Rattle.scw_back.proofs.LinkedMethods.{method_at, static_by, target_at}
use Rattle.scw_back.proofs.Loaded.{Generated, IsMethod, Loaded, around_by}
use Rattle.scw_back.proofs.MadeParts.{Parts, parts_of}
use Rattle.scw_back.proofs.Meanings.{Calls}
use Rattle.scw_back.proofs.Placed.{number_of}
use Rattle.scw_back.proofs.RoomFar.{locals-far, stack-far, start-far}
use Rattle.scw_back.proofs.SelectorNumbers.{main_numbered}
use Rattle.scw_back.proofs.StoodCode.{stood_all}

-- ---- the method that a member is

record Bodied (g : Around) (bodies : List (SymId × Tree)) (m : Member) (y : Method) : Type 0 where
  form : is_method m ≡ true
  body : Tree
  body_there : look bodies m.symbol ≡ Some body
  start : Start
  starts : start_of g m ≡ Some start
  instrs : List Instr
  made' : code_of_body g start body ≡ Some instrs
  name : MethodName
  name_is : method_name g m ≡ Some name
  is : method_with g start body instrs name ≡ y

bodied : (g : Around) (bodies : List (SymId × Tree)) (m : Member) (y : Method) → method_of g bodies m ≡ Some y → Bodied g bodies m y
bodied g bodies m y h = by (is_method m) refl h
  where
    with_body : is_method m ≡ true → (o : Option Tree) → look bodies m.symbol ≡ o → method_in g m o ≡ Some y → Bodied g bodies m y
    with_body form None e k = absurd (none-some y k)
    with_body form (Some t) e k =
        let a = bound (start_of g m) (λ s. code_of_body g s t >>= λ is. method_name g m >>= λ n. Some (method_with g s t is n)) y k in
        let b = bound (code_of_body g a.0 t) (λ is. method_name g m >>= λ n. Some (method_with g a.0 t is n)) y a.2 in
        let c = bound (method_name g m) (λ n. Some (method_with g a.0 t b.0 n)) y b.2 in
        record { form = form; body = t; body_there = e; start = a.0; starts = a.1; instrs = b.0; made' = b.1; name = c.0; name_is = c.1; is = same_Some (method_with g a.0 t b.0 c.0) y c.2 }

    by : (b : Bool) → is_method m ≡ b → cond b (method_in g m (look bodies m.symbol)) None ≡ Some y → Bodied g bodies m y
    by true f k = with_body f (look bodies m.symbol) refl k
    by false f k = absurd (none-some y k)

-- the descriptor of a member is that of its name
named-descriptor : (g : Around) (m : Member) (n : MethodName) → method_name g m ≡ Some n → descriptor g m ≡ Some n.descriptor
named-descriptor g m n h =
    let b = bound (descriptor g m) (λ text. described (own_method g (units_of_name m.name) text)) n h in
    let d = described-is (own_method g (units_of_name m.name) b.0) n b.2 in
    b.1 ∙ ap (λ (k : MethodName). Some k.descriptor) d.0

-- a body has its code with near jumps or with far ones
pub record In_form (g : Around) (m : Member) (s : Start) (t : Tree) (is : List Instr) : Type 0 where
  is_far : Bool
  starts : start_of (record g { is_far = is_far }) m ≡ Some s
  made' : body_code (record g { is_far = is_far }) s t ≡ Some is
  stack_same : stack_of (record g { is_far = is_far }) s.mode t ≡ stack_of g s.mode t
  locals_same : locals_of (record g { is_far = is_far }) s.next t ≡ locals_of g s.next t

in_form : (g : Around) (m : Member) (s : Start) (t : Tree) (is : List Instr) → g.is_far ≡ false → start_of g m ≡ Some s → code_of_body g s t ≡ Some is → In_form g m s t is
in_form g m s t is close starts h =
    let n = bound (body_code (near g) s t) (λ js. cond (nat_le (bytes_of js) MAX_NEAR) (Some js) (body_code (far g) s t)) is h in
    by (nat_le (bytes_of n.0) MAX_NEAR) n.0 n.1 n.2
  where
    here : near g ≡ g
    here = ap (λ b. record g { is_far = b }) (sym close)

    by : (c : Bool) (js : List Instr) → body_code (near g) s t ≡ Some js → cond c (Some js) (body_code (far g) s t) ≡ Some is → In_form g m s t is
    by true js e k = record {
      is_far = false;
      starts = ap (λ (x : Around). start_of x m) here ∙ starts;
      made' = e ∙ k;
      stack_same = ap (λ (x : Around). stack_of x s.mode t) here;
      locals_same = ap (λ (x : Around). locals_of x s.next t) here;
    }
    by false js e k = record { is_far = true; starts = start-far g m ∙ starts; made' = k; stack_same = stack-far g s.mode t; locals_same = locals-far g s.next t }

short-is : (n : ℕ) → n ≤ 65535 → short n ≡ n
short-is n le = omega (arith, le)

-- symbols that are the same
symbol-is : (a b : SymId) → same_symbol a b ≡ true → a ≡ b
symbol-is a b h = let e = eqb-true a.0 b.0 h in (λ k. record { 0 = e k })

module _ (p : core.Program) (K : CoreClass) (m : Made) (c : ClassFile) (parts : Parts p K m c) where
  abbrev g : Around
  g = around p K m.pool

  abbrev own : List ℕ
  own = units_of_name K.binary_name

  abbrev F : List ClassFile
  F = file_with m.pool parts.infos parts.this parts.parent ∷ []

  abbrev L : List ℕ → Program
  L main = classes.P m.pool parts.infos parts.this parts.parent main

  -- ---- the methods of the file

  first_there : slice_get m.methods 0 ≡ Some (constructor g)
  first_there = ap (λ l. slice_get l 0) (sym parts.methods)

  second_there : slice_get m.methods 1 ≡ Some (getter g)
  second_there = ap (λ l. slice_get l 1) (sym parts.methods)

  -- that which the member at a place is
  record Member_method (j : ℕ) (x : Member) : Type 0 where
    method : Method
    there : slice_get m.methods (suc (suc j)) ≡ Some method
    bodied' : Bodied g p.bodies x method

  member_method : (j : ℕ) (x : Member) → slice_get K.members j ≡ Some x → Member_method j x
  member_method j x h =
      let t = parts.members.to j x h in
      record { method = t.0; there = ap (λ l. slice_get l (suc (suc j))) (sym parts.methods) ∙ t.1; bodied' = bodied g p.bodies x t.0 t.2 }

  -- ---- what calls run

  called : (j : ℕ) (y : Method) → slice_get m.methods j ≡ Some y → target_in F (static_by y.flags) y.name y.descriptor (24 ∷ 0 ∷ []) ≡ Some (target.Code (record { 0 = 1 + j }))
  called j y h = target_at g parts.few parts.laid m.methods parts.infos parts.beside parts.this parts.parent parts.distinct j y h

  own_called : (x : SymId) (a : Member) (n : MethodName) → in_members K.members x ≡ Some a → method_name g a ≡ Some n
      → (number : ℕ) × (number_of K x ≡ Some number) × (target_in F false n.name n.descriptor (24 ∷ 0 ∷ []) ≡ Some (target.Code (record { 0 = number }))) × Read g a n.descriptor
  own_called x a n there name =
      let f = find-first (λ (y : Member). same_symbol y.symbol x) K.members a there in
      let r = member_method f.0 a f.1.there in
      let b = r.bodied' in
      let y = method_with g b.start b.body b.instrs n in
      let is : y ≡ r.method = ap (method_with g b.start b.body b.instrs) (same_Some n b.name (sym name ∙ b.name_is)) ∙ b.is in
      let t = called (suc (suc f.0)) y (r.there ∙ ap (λ (z : Method). Some z) (sym is)) in
      let e : 1 + suc (suc f.0) ≡ 3 + f.0 = omega arith in (
        3 + f.0,
        ap (option_map (λ j. 3 + j)) (first-position (λ (z : Member). same_symbol z.symbol x) K.members f.0 a f.1),
        t ∙ ap (λ (k : ℕ). Some (target.Code (record { 0 = k }))) e,
        descriptor_read g a n.descriptor (own_unended g parts.accessor) (named-descriptor g a n name),
      )

  number : class_number F own ≡ Some 24
  number = own_number m.pool parts.infos parts.this parts.parent own parts.this_is parts.dollar

  calls : Calls g parts.infos parts.this parts.parent
  calls = record { own = number; init = called 0 (constructor g) first_there; method = own_called }

  -- ---- linked methods

  module _ (main : List ℕ) where
    linked_method : (j : ℕ) (y : Method) → slice_get m.methods j ≡ Some y → IsMethod p K m.pool (L main) (suc j) (receiver (static_by y.flags) ++ parameter_kinds y.descriptor) y.stack y.locals y.instrs
    linked_method j y h =
        let s = classes.S m.pool parts.infos parts.this parts.parent in
        let front = methods_from s 0 0 (before_methods (classes.C m.pool parts.infos parts.this parts.parent)) 0 parts.infos in
        let a = method_at g parts.few parts.laid m.methods parts.infos parts.beside s 0 0 (before_methods (classes.C m.pool parts.infos parts.this parts.parent)) 0 j y refl h in
        let l = a.2 in
        let small = parts.small j y h in
        record {
          method = a.0;
          there = get-front front [] j a.0 a.1;
          arguments_are = l.arguments_are;
          stack_is = l.stack_is ∙ short-is y.stack small.stack;
          locals_is = l.locals_is ∙ short-is y.locals small.locals;
          guards_are = l.guards_are;
          stood = stood_all g parts.few parts.laid parts.fit parts.infos parts.this parts.parent calls main a.0 l.first y.instrs l.code l.encoded (parts.right j y h).closed small.code l.code_is;
        }

    generated : (x : SymId) (j : ℕ) (a : Member) → First (λ (y : Member). same_symbol y.symbol x) K.members j a → Generated p K m.pool (L main) x (3 + j)
    generated x j a first =
        let r = member_method j a first.there in
        let b = r.bodied' in
        let f = in_form g a b.start b.body b.instrs refl b.starts b.made' in
        let y = method_with g b.start b.body b.instrs b.name in
        let there : slice_get m.methods (suc (suc j)) ≡ Some y = r.there ∙ ap (λ (z : Method). Some z) (sym b.is) in
        let small = parts.small (suc (suc j)) y there in
        let read = descriptor_read g a b.name.descriptor (own_unended g parts.accessor) (named-descriptor g a b.name b.name_is) in
        let is = linked_method (suc (suc j)) y there in
        let e : suc (suc (suc j)) ≡ 3 + j = omega arith in
        record {
          member = a;
          method_form = b.form;
          member_there = first-find (λ (z : Member). same_symbol z.symbol x) K.members j a first;
          body = b.body;
          body_there = ap (look p.bodies) (sym (symbol-is a.symbol x first.passes)) ∙ b.body_there;
          kinds = read.kinds;
          kinds_are = read.kinds_are;
          far = f.is_far;
          start = b.start;
          starts = f.starts;
          instrs = b.instrs;
          made = f.made';
          is = record {
            method = is.method;
            there = ap (slice_get (L main).methods) (sym e) ∙ is.there;
            arguments_are = is.arguments_are ∙ ap (λ ks. value.Reference ∷ ks) read.is;
            stack_is = is.stack_is ∙ sym f.stack_same;
            locals_is = is.locals_is ∙ sym f.locals_same;
            guards_are = is.guards_are;
            stood = is.stood;
          };
          short = small.code;
          few = small.arguments;
          shallow = subst (λ n. n ≤ 65535) (sym f.stack_same) small.stack;
          narrow = subst (λ n. n ≤ 65535) (sym f.locals_same) small.locals;
        }

    by_number : (x : SymId) (n : ℕ) → number_of K x ≡ Some n → Generated p K m.pool (L main) x n
    by_number x n h = by (position (λ (y : Member). same_symbol y.symbol x) K.members) refl h
      where
        by : (o : Option ℕ) → position (λ (y : Member). same_symbol y.symbol x) K.members ≡ o → option_map (λ j. 3 + j) o ≡ Some n → Generated p K m.pool (L main) x n
        by None e k = absurd (none-some n k)
        by (Some j) e k =
            let f = position-first (λ (y : Member). same_symbol y.symbol x) K.members j e in
            subst (Generated p K m.pool (L main) x) (same_Some (3 + j) n k) (generated x j f.0 f.1)

    -- ---- the launcher

    module _ (named : main ++ codes "$" ≡ own) where
      accessor : getter_target F lines (selectors_of F) main ≡ Some (target.Code (record { 0 = 2 }))
      accessor = accessor_target m.pool parts.infos parts.this parts.parent own main (target.Code (record { 0 = 2 })) named number (called 1 (getter g) second_there)

      main_runs : (x : SymId) (n : ℕ) (a : Member) (name : MethodName) → number_of K x ≡ Some n → in_members K.members x ≡ Some a → method_name g a ≡ Some name
          → name.name ≡ codes "main" → name.descriptor ≡ codes "([Ljava/lang/String;)V" → target_in F false (codes "main") (codes "([Ljava/lang/String;)V") (24 ∷ 0 ∷ []) ≡ Some (target.Code (record { 0 = n }))
      main_runs x n a name is there known e d =
          let o = own_called x a name there known in
          let same : o.0 ≡ n = same_Some o.0 n (sym o.1 ∙ is) in
          (λ k. target_in F false (sym e k) (sym d k) (24 ∷ 0 ∷ [])) ∙ o.2 ∙ ap (λ (k : ℕ). Some (target.Code (record { 0 = k }))) same

      own_loaded : Loaded p K m.pool (L main) own
      own_loaded = record {
        own_class = own_class m.pool parts.infos parts.this parts.parent own parts.this_is parts.dollar p K main;
        arithmetic_class = arithmetic_class m.pool parts.infos parts.this parts.parent own parts.this_is parts.dollar p K main;
        launcher = launcher (file_methods F lines (selectors_of F) 0 0 0 F) (getter_target F lines (selectors_of F) main);
        launcher_there = refl;
        launcher_code = ap launch_code accessor;
        launcher_guards = refl;
        launcher_stack = refl;
        constructor = linked_method 0 (constructor g) first_there;
        getter = linked_method 1 (getter g) second_there;
        members = by_number;
        main_kinds = slice_get-map (λ (s : Selector). value.Reference ∷ parameter_kinds s.descriptor) (selectors_of F) 0 ∙ ap (option_map (λ s. value.Reference ∷ parameter_kinds s.descriptor)) (main_numbered (classes.C m.pool parts.infos parts.this parts.parent));
        main_target = λ x n a name is there known e d.
            own_target m.pool parts.infos parts.this parts.parent main 0 main_selector (main_numbered (classes.C m.pool parts.infos parts.this parts.parent)) ∙ main_runs x n a name is there known e d;
      }

      -- by the parents that the files tell
      file_loaded : Loaded p K m.pool (linked (c ∷ []) main) own
      file_loaded =
          let same : linked F main ≡ L main = ap (λ ps. program_with F ps (selectors_of F) main) (parents_are m.pool parts.infos parts.this parts.parent parts.parent_is) in
          subst (λ (k : ClassFile). Loaded p K m.pool (linked (k ∷ []) main) own) parts.is (subst (λ (l : Program). Loaded p K m.pool l own) (sym same) own_loaded)

      main_there : (x : SymId) (a : Member) (name : MethodName) → in_members K.members x ≡ Some a → method_name g a ≡ Some name
          → name.name ≡ codes "main" → name.descriptor ≡ codes "([Ljava/lang/String;)V" → has_main (c ∷ []) main ≡ true
      main_there x a name there known e d =
          let o = own_called x a name there known in
          let runs = main_runs x o.0 a name o.1 there known e d in
          let ps = parents_are m.pool parts.infos parts.this parts.parent parts.parent_is in
          let gets : is_code (getter_target F (parents F) [] main) ≡ true = ap (λ l. is_code (getter_target F l [] main)) ps ∙ ap is_code accessor in
          let found : resolve.target (outside F lines []) false (main_named main) ≡ Some (target.Code (record { 0 = o.0 })) =
          ap (λ own'. and_then (option_map (superclasses lines) (class_number F own')) (target_in F false (codes "main") (codes "([Ljava/lang/String;)V"))) named
          ∙ ap (λ o. and_then (option_map (superclasses lines) o) (target_in F false (codes "main") (codes "([Ljava/lang/String;)V"))) number
          ∙ runs in
          let starts : is_code (resolve.target (outside F (parents F) []) false (main_named main)) ≡ true = ap (λ l. is_code (resolve.target (outside F l []) false (main_named main))) ps ∙ ap is_code found in
          subst (λ (k : ClassFile). has_main (k ∷ []) main ≡ true) parts.is (and_from (is_code (getter_target F (parents F) [] main)) (is_code (resolve.target (outside F (parents F) []) false (main_named main))) gets starts)

-- the program of a class's file
pub loaded : (p : core.Program) (K : CoreClass) (m : Made) (c : ClassFile) (main : List ℕ) → made p K ≡ Some m → excess_of m.pool m.methods ≡ None → file p K m ≡ Some c → main ++ codes "$" ≡ units_of_name K.binary_name
    → Loaded p K m.pool (linked (c ∷ []) main) (units_of_name K.binary_name)
loaded p K m c main is_made none is named = file_loaded p K m c (parts_of p K m c is_made none is) main named

-- a program with a method `main` starts
pub starts_there : (p : core.Program) (K : CoreClass) (m : Made) (c : ClassFile) (main : List ℕ) (x : SymId) (member : Member) (name : MethodName)
    → made p K ≡ Some m → excess_of m.pool m.methods ≡ None → file p K m ≡ Some c → main ++ codes "$" ≡ units_of_name K.binary_name
    → in_members K.members x ≡ Some member → method_name (around_by p K m.pool false) member ≡ Some name → name.name ≡ codes "main" → name.descriptor ≡ codes "([Ljava/lang/String;)V"
    → has_main (c ∷ []) main ≡ true
starts_there p K m c main x member name is_made none is named there known e d = main_there p K m c (parts_of p K m c is_made none is) main named x member name there known e d

-- the room of the launcher, whatever the files
pub launcher_room : (files : List ClassFile) (main : List ℕ) (l : machine.Method) → slice_get (linked files main).methods 0 ≡ Some l → (l.arguments ≡ []) × (l.stack ≡ 2) × (l.locals ≡ 1)
launcher_room files main l h =
    let first = launcher (file_methods files (parents files) (selectors_of files) 0 0 0 files) (getter_target files (parents files) (selectors_of files) main) in
    let same = same_Some first l h in
    (ap (λ (m : machine.Method). m.arguments) (sym same), ap (λ (m : machine.Method). m.stack) (sym same), ap (λ (m : machine.Method). m.locals) (sym same))
