use Rattle.std.proofs.Common.{◌≡◌, drop, map}
use Rattle.scw_reader.specs.View.{expression_of, product_of, atom_of, statement_of, products_of, atoms_of, expressions_of, statements_of}
use Rattle.scw_small.specs.NameView.{names_of}
use Rattle.scw_small.specs.Typing.{products, atoms, arguments, statements, no_arguments, empty_body}
use Rattle.scw_small.specs.View.{typed_of, body_of, operands_of, state_of}
use Rattle.scw_small.proofs.typing.Typer.+typing.Given as goal

abbrev pub invariant-products-loop-product : goal.invariant-products-loop-product
invariant-products-loop-product l =
    products (names_of l.self.methods.now) (typed_of l.sum) (products_of (map product_of (drop l.product-index l.more))) (state_of l.state)
    ≡ products (names_of l.self.methods.now) (typed_of l.fn.first) (products_of (map product_of l.more)) (state_of l.fn.state)

abbrev pub invariant-atoms-loop-atom : goal.invariant-atoms-loop-atom
invariant-atoms-loop-atom l =
    atoms (names_of l.self.methods.now) (typed_of l.product) (atoms_of (map atom_of (drop l.atom-index l.more))) (state_of l.state)
    ≡ atoms (names_of l.self.methods.now) (typed_of l.fn.first) (atoms_of (map atom_of l.more)) (state_of l.fn.state)

abbrev pub invariant-arguments-loop-argument : goal.invariant-arguments-loop-argument
invariant-arguments-loop-argument l =
    arguments (names_of l.self.methods.now) (operands_of l.operands) (expressions_of (map expression_of (drop l.argument-index l.arguments))) (state_of l.state)
    ≡ arguments (names_of l.self.methods.now) no_arguments (expressions_of (map expression_of l.arguments)) (state_of l.fn.state)

abbrev pub invariant-statements-loop-statement : goal.invariant-statements-loop-statement
invariant-statements-loop-statement l =
    statements (names_of l.self.methods.now) (body_of l.body) (statements_of (map statement_of (drop l.statement-index l.statements))) (state_of l.state)
    ≡ statements (names_of l.self.methods.now) empty_body (statements_of (map statement_of l.statements)) (state_of l.fn.state)
