-- Each expression has the kind of its type.
use Rattle.std.proofs.Common.{◌≡◌, refl, ap, subst, ◌∙◌, true, false, List, [], ◌∷◌, ◌++◌, length, take, Some, arith}
use Rattle.scw_core.specs.Tree.{Tree}
use Rattle.scw_core.specs.TreeOf.{trees_of}
use Rattle.scw_core.specs.declared.tree.Local.{Local}
use Rattle.scw_core.specs.declared.operator.Literal.TheVariants as literal
use Rattle.scw_core.specs.declared.operator.Op.TheVariants as op
use Rattle.scw_text.specs.declared.number.SymId.{SymId}
use Rattle.scw_reader.specs.Syntax as syntax
use Rattle.scw_reader.specs.Syntax.{no_products, more_products, no_atoms, more_atoms, no_expressions, more_expressions, no_statements, more_statements}
use Rattle.scw_reader.specs.declared.tree.TypeName.TheVariants as type
use Rattle.scw_gen.specs.Typed.{Known, bound, kind_of_statements}
use Rattle.scw_gen.specs.declared.kind.Kind.{Kind}
use Rattle.scw_gen.specs.declared.kind.Kind.TheVariants as kind
use Rattle.scw_small.specs.Rule.{plus, times, operated, chosen, repeated}
use Rattle.scw_small.specs.Step.{Named, State, given_in, leave}
use Rattle.scw_small.specs.Typed.{Typed, Body, leaf, printed, truth, blocked}
use Rattle.scw_small.specs.Typing.{Operands, no_arguments, one_more, called, empty_body, left, expression, products, product, atoms, atom, arguments, statements, statement}
use Rattle.scw_built.proofs.Setting.{Setting, around, kind_for}
use Rattle.scw_built.proofs.Fine.{FineExpression, FineProducts, FineProduct, FineAtoms, FineAtom, FineExpressions, FineStatements, FineStatement}
use Rattle.scw_built.proofs.Marks.{SetAs, Free, free-part, some-is}
use Rattle.scw_built.proofs.Locals.{onto, onto-other, onto-keeps, onto-awaits, onto-bound}
use Rattle.scw_built.proofs.Steps.{grown-then, both-gave, given-gave}
use Rattle.scw_built.proofs.Units.{text-units}
use Rattle.scw_built.proofs.TreeKinds.{Has, Passed, int-has, long-has, truth-has, printed-has, plus-has, times-has, operated-has, chosen-has, repeated-has, one-passed, none-passed, block-is, last-is}
use Rattle.scw_built.proofs.Passes.{Seen, Passes, Said, pass-here, pass-moved, pass-given, pass-map, pass-app, pass-pair, said-none, said-then}
use Rattle.scw_built.proofs.NameKinds.{text-passes, used-passes, assigned-passes, called-has, plain-said, defined-said}
use Rattle.scw_built.proofs.SmallNames.{Variable, this_symbol}

take-front : {A : Type 0} (xs ys : List A) → take (length xs) (xs ++ ys) ≡ xs
take-front [] ys = refl
take-front (x ∷ xs) ys = ap (λ l. x ∷ l) (take-front xs ys)

module _ (c : Setting) where
  -- an expression of its own
  abbrev Tells : Typed → List Known → Type 0
  Tells a ys = Has c ys a

  -- a block whose statements and last expression are typed
  block-passes : (b : Body) (e a : Typed) (s r q t : State) → Said c s empty_body r b → Passes c r q (Tells e) → left (length s.scope) b e q ≡ Some (a, t) → Passes c s t (Tells a)
  unfolding left leave
  block-passes b e a s r q t x p h =
      let back : State = record q { scope = take (length s.scope) q.scope } in
      let g = grown-then s r q x.grown p.grown in
      let u = x.grown.later in let v = p.grown.later in let w = p.grown.texts in
      pass-given c s back t (blocked b e) a (λ (y : Typed) (ys : List Known). Has c ys y) h (record {
        grown = record { later = g.later; types = g.types; texts = g.texts; units = g.units };
        scope = ap (λ (l : Named Variable). take (length s.scope) l) (p.scope ∙ x.scope) ∙ take-front s.scope x.more;
        holds = λ ans ys len seen free.
            let outer : Free s.next r.next ys = free-part s.next q.next s.next r.next ys free (omega arith) v in
            let zs : List Known = onto x.defs ys in
            let keeps : (n : SymId) (k : Kind) → SetAs ys n k → SetAs zs n k = λ n k z. record { local = z.local; there = onto-keeps s.next r.next x.defs ys n z.local x.rising outer z.there; kind_is = z.kind_is; set = z.set } in
            let inside : Seen s.scope zs = record { variable = λ y z f. keeps z.symbol (kind_for z.kind) (seen.variable y z f); this = keeps this_symbol kind.This seen.this } in
            let run = x.runs ans zs (omega arith) inside (onto-awaits s.next r.next x.defs ys x.rising outer) in
            let later : Free r.next q.next run.after = record { free = λ n i j. run.marks.none n (onto-other s.next r.next x.defs ys n x.rising (λ m f k d. omega arith) ∙ free.free n (omega arith) j) } in
            let last : Has c run.after e = p.holds ans run.after len run.seen later in
            let binds : bound (around c) b.locals ys ≡ Some zs = ap (λ (l : List Local). bound (around c) l ys) x.locals_are ∙ onto-bound c s.next r.next x.defs ys x.rising outer in
            let says : kind_of_statements (around c) zs (trees_of (b.trees ++ e.tree ∷ [])) ≡ Some (kind_for e.kind) =
            ap (λ (l : List Tree). kind_of_statements (around c) zs (trees_of (l ++ e.tree ∷ []))) x.trees_are ∙ run.go e.tree [] ∙ last-is c run.after e last in
            record { kind_is = block-is c ys e.kind b.locals (trees_of (b.trees ++ e.tree ∷ [])) zs binds says };
      })

  mutual
    pub expression-passes : (e : syntax.Expression) (s : State) (a : Typed) (t : State) → FineExpression e → expression c.methods e s ≡ Some (a, t) → Passes c s t (Tells a)
    expression-passes (syntax.sum p ps) s a t f h =
        let one = both-gave (product c.methods p s) _ a t h in
        pass-app c s one.1 t (Tells one.0) (Tells a) (product-passes p s one.0 one.1 f.0 one.2) (products-passes ps one.0 one.1 a t f.1 one.3)
    expression-passes (syntax.operation o x y) s a t f h =
        let one = both-gave (atom c.methods x s) _ a t h in
        let two = both-gave (atom c.methods y one.1) _ a t one.3 in
        let g = given-gave (operated o one.0 two.0) a two.1 t two.3 in
        let both = pass-pair c s one.1 two.1 (Tells one.0) (Tells two.0) (atom-passes x s one.0 one.1 f.0 one.2) (atom-passes y one.1 two.0 two.1 f.1 two.2) in
        pass-moved c s two.1 t (Tells a) g.1
        (pass-map c s two.1 (λ ys. Has c ys one.0 × Has c ys two.0) (Tells a) (λ ys k. operated-has c ys o one.0 two.0 a k.0 k.1 g.0) both)
    expression-passes (syntax.if_else x y z) s a t f h =
        let one = both-gave (expression c.methods x s) _ a t h in
        let two = both-gave (expression c.methods y one.1) _ a t one.3 in
        let three = both-gave (expression c.methods z two.1) _ a t two.3 in
        let g = given-gave (chosen one.0 two.0 three.0) a three.1 t three.3 in
        let both = pass-pair c s one.1 two.1 (Tells one.0) (Tells two.0) (expression-passes x s one.0 one.1 f.0 one.2) (expression-passes y one.1 two.0 two.1 f.1 two.2) in
        let all = pass-pair c s two.1 three.1 (λ ys. Has c ys one.0 × Has c ys two.0) (Tells three.0) both (expression-passes z two.1 three.0 three.1 f.2 three.2) in
        pass-moved c s three.1 t (Tells a) g.1
        (pass-map c s three.1 (λ ys. (Has c ys one.0 × Has c ys two.0) × Has c ys three.0) (Tells a) (λ ys k. chosen-has c ys one.0 two.0 three.0 a k.0.0 k.0.1 k.1 g.0) all)
    expression-passes (syntax.while_do x y) s a t f h =
        let one = both-gave (expression c.methods x s) _ a t h in
        let two = both-gave (expression c.methods y one.1) _ a t one.3 in
        let g = given-gave (repeated one.0 two.0) a two.1 t two.3 in
        let both = pass-pair c s one.1 two.1 (Tells one.0) (Tells two.0) (expression-passes x s one.0 one.1 f.0 one.2) (expression-passes y one.1 two.0 two.1 f.1 two.2) in
        pass-moved c s two.1 t (Tells a) g.1
        (pass-map c s two.1 (λ ys. Has c ys one.0 × Has c ys two.0) (Tells a) (λ ys k. repeated-has c ys one.0 two.0 a k.0 k.1 g.0) both)
    expression-passes (syntax.block ss e) s a t f h =
        let one = both-gave (statements c.methods empty_body ss s) _ a t h in
        let two = both-gave (expression c.methods e one.1) _ a t one.3 in
        block-passes one.0 two.0 a s one.1 two.1 t (statements-said ss empty_body s one.0 one.1 f.0 one.2) (expression-passes e one.1 two.0 two.1 f.1 two.2) two.3
    expression-passes (syntax.assign x e) s a t f h =
        let one = both-gave (expression c.methods e s) _ a t h in
        pass-app c s one.1 t (Tells one.0) (Tells a) (expression-passes e s one.0 one.1 f one.2) (assigned-passes c x one.0 one.1 t a one.3)

    products-passes : (ps : syntax.Products) (x : Typed) (s : State) (a : Typed) (t : State) → FineProducts ps → products c.methods x ps s ≡ Some (a, t) → Passes c s t (λ ys. Has c ys x → Has c ys a)
    products-passes no_products x s a t f h =
        pass-given c s s t x a (λ (q : Typed) (ys : List Known). Has c ys x → Has c ys q) h (pass-here c s (λ ys. Has c ys x → Has c ys x) (λ ans ys len seen k. k))
    products-passes (more_products p ps) x s a t f h =
        let one = both-gave (product c.methods p s) _ a t h in
        let two = both-gave (given_in (plus x one.0) one.1) _ a t one.3 in
        let g = given-gave (plus x one.0) two.0 one.1 two.1 two.2 in
        pass-app c s two.1 t (Tells one.0) (λ ys. Has c ys x → Has c ys a) (pass-moved c s one.1 two.1 (Tells one.0) g.1 (product-passes p s one.0 one.1 f.0 one.2))
        (pass-map c two.1 t (λ ys. Has c ys two.0 → Has c ys a) (λ ys. Has c ys one.0 → Has c ys x → Has c ys a) (λ ys k u v. k (plus-has c ys x one.0 two.0 v u g.0)) (products-passes ps two.0 two.1 a t f.1 two.3))

    product-passes : (p : syntax.Product) (s : State) (a : Typed) (t : State) → FineProduct p → product c.methods p s ≡ Some (a, t) → Passes c s t (Tells a)
    product-passes (syntax.product x as') s a t f h =
        let one = both-gave (atom c.methods x s) _ a t h in
        pass-app c s one.1 t (Tells one.0) (Tells a) (atom-passes x s one.0 one.1 f.0 one.2) (atoms-passes as' one.0 one.1 a t f.1 one.3)

    atoms-passes : (as' : syntax.Atoms) (x : Typed) (s : State) (a : Typed) (t : State) → FineAtoms as' → atoms c.methods x as' s ≡ Some (a, t) → Passes c s t (λ ys. Has c ys x → Has c ys a)
    atoms-passes no_atoms x s a t f h =
        pass-given c s s t x a (λ (q : Typed) (ys : List Known). Has c ys x → Has c ys q) h (pass-here c s (λ ys. Has c ys x → Has c ys x) (λ ans ys len seen k. k))
    atoms-passes (more_atoms p ps) x s a t f h =
        let one = both-gave (atom c.methods p s) _ a t h in
        let two = both-gave (given_in (times x one.0) one.1) _ a t one.3 in
        let g = given-gave (times x one.0) two.0 one.1 two.1 two.2 in
        pass-app c s two.1 t (Tells one.0) (λ ys. Has c ys x → Has c ys a) (pass-moved c s one.1 two.1 (Tells one.0) g.1 (atom-passes p s one.0 one.1 f.0 one.2))
        (pass-map c two.1 t (λ ys. Has c ys two.0 → Has c ys a) (λ ys. Has c ys one.0 → Has c ys x → Has c ys a) (λ ys k u v. k (times-has c ys x one.0 two.0 v u g.0)) (atoms-passes ps two.0 two.1 a t f.1 two.3))

    atom-passes : (x : syntax.Atom) (s : State) (a : Typed) (t : State) → FineAtom x → atom c.methods x s ≡ Some (a, t) → Passes c s t (Tells a)
    atom-passes (syntax.int n) s a t f h = pass-given c s s t (leaf type.Int (op.Literal (literal.Int n))) a (λ (q : Typed) (ys : List Known). Has c ys q) h (pass-here c s (Tells (leaf type.Int (op.Literal (literal.Int n)))) (λ ans ys len seen. int-has c ys n f))
    atom-passes (syntax.long n) s a t f h = pass-given c s s t (leaf type.Long (op.Literal (literal.Long n))) a (λ (q : Typed) (ys : List Known). Has c ys q) h (pass-here c s (Tells (leaf type.Long (op.Literal (literal.Long n)))) (λ ans ys len seen. long-has c ys n f))
    atom-passes (syntax.truth b) s a t f h = pass-given c s s t (truth b) a (λ (q : Typed) (ys : List Known). Has c ys q) h (pass-here c s (Tells (truth b)) (λ ans ys len seen. truth-has c ys b))
    atom-passes (syntax.text characters) s a t f h = text-passes c characters s t a (text-units characters f) h
    atom-passes (syntax.name x) s a t f h = used-passes c x s t a h
    atom-passes (syntax.call m es) s a t f h =
        let one = both-gave (arguments c.methods no_arguments es s) _ a t h in
        let g = given-gave (called c.methods m one.0) a one.1 t one.3 in
        pass-moved c s one.1 t (Tells a) g.1
        (pass-app c s one.1 one.1 (λ ys. Passed c ys no_arguments → Passed c ys one.0) (Tells a) (arguments-passes es no_arguments s one.0 one.1 f one.2)
        (pass-here c one.1 (λ ys. (Passed c ys no_arguments → Passed c ys one.0) → Has c ys a) (λ ans ys len seen k. called-has c m one.0 a ys ans (k (none-passed c ys seen.this)) g.0)))
    atom-passes (syntax.print e) s a t f h =
        let one = both-gave (expression c.methods e s) _ a t h in
        pass-given c s one.1 t (printed one.0) a (λ (q : Typed) (ys : List Known). Has c ys q) one.3
        (pass-map c s one.1 (Tells one.0) (Tells (printed one.0)) (λ ys k. printed-has c ys one.0 k) (expression-passes e s one.0 one.1 f one.2))
    atom-passes (syntax.paren e) s a t f h = expression-passes e s a t f h

    arguments-passes : (es : syntax.Expressions) (o : Operands) (s : State) (q : Operands) (t : State) → FineExpressions es → arguments c.methods o es s ≡ Some (q, t) → Passes c s t (λ ys. Passed c ys o → Passed c ys q)
    arguments-passes no_expressions o s q t f h =
        pass-given c s s t o q (λ (r : Operands) (ys : List Known). Passed c ys o → Passed c ys r) h (pass-here c s (λ ys. Passed c ys o → Passed c ys o) (λ ans ys len seen k. k))
    arguments-passes (more_expressions e es) o s q t f h =
        let one = both-gave (expression c.methods e s) _ q t h in
        pass-app c s one.1 t (Tells one.0) (λ ys. Passed c ys o → Passed c ys q) (expression-passes e s one.0 one.1 f.0 one.2)
        (pass-map c one.1 t (λ ys. Passed c ys (one_more o one.0) → Passed c ys q) (λ ys. Has c ys one.0 → Passed c ys o → Passed c ys q) (λ ys k u v. k (one-passed c ys o one.0 u v)) (arguments-passes es (one_more o one.0) one.1 q t f.1 one.3))

    statements-said : (ss : syntax.Statements) (b : Body) (s : State) (d : Body) (t : State) → FineStatements ss → statements c.methods b ss s ≡ Some (d, t) → Said c s b t d
    statements-said no_statements b s d t f h = subst (λ (q : Body × State). Said c s b q.1 q.0) (some-is (b, s) (d, t) h) (said-none c s b)
    statements-said (more_statements x xs) b s d t f h =
        let one = both-gave (statement c.methods b x s) _ d t h in
        said-then c s one.1 t b one.0 d (statement-said x b s one.0 one.1 f.0 one.2) (statements-said xs one.0 one.1 d t f.1 one.3)

    statement-said : (x : syntax.Statement) (b : Body) (s : State) (d : Body) (t : State) → FineStatement x → statement c.methods b x s ≡ Some (d, t) → Said c s b t d
    statement-said (syntax.val_def x k e) b s d t f h =
        let one = both-gave (expression c.methods e s) _ d t h in
        defined-said c b d x k false one.0 s one.1 t (expression-passes e s one.0 one.1 f one.2) one.3
    statement-said (syntax.var_def x k e) b s d t f h =
        let one = both-gave (expression c.methods e s) _ d t h in
        defined-said c b d x k true one.0 s one.1 t (expression-passes e s one.0 one.1 f one.2) one.3
    statement-said (syntax.plain e) b s d t f h =
        let one = both-gave (expression c.methods e s) _ d t h in
        plain-said c b d one.0 s one.1 t (expression-passes e s one.0 one.1 f one.2) one.3
