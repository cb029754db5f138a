use Rattle.std.proofs.Common.{◌≡◌, max, drop, map}
use Rattle.scw_reader.specs.View.{expression_of, product_of, atom_of, statement_of, products_of, atoms_of, expressions_of, statements_of}
use Rattle.scw_reader.specs.Limits.{products_depth, atoms_depth, expressions_depth, statements_depth}
use Rattle.scw_reader.specs.Capped.{capped}
use Rattle.scw_reader.proofs.depth.+depth.Given as goal

abbrev pub invariant-products_depth-loop-product : goal.invariant-products_depth-loop-product
invariant-products_depth-loop-product l = record {
  small : l.depth ≡ capped l.depth;
  whole : capped (products_depth l.depth (products_of (map product_of (drop l.product-index l.more)))) ≡ capped (products_depth l.fn.first (products_of (map product_of l.more)));
}

abbrev pub invariant-atoms_depth-loop-atom : goal.invariant-atoms_depth-loop-atom
invariant-atoms_depth-loop-atom l = record {
  small : l.depth ≡ capped l.depth;
  whole : capped (atoms_depth l.depth (atoms_of (map atom_of (drop l.atom-index l.more)))) ≡ capped (atoms_depth l.fn.first (atoms_of (map atom_of l.more)));
}

abbrev pub invariant-expressions_depth-loop-e : goal.invariant-expressions_depth-loop-e
invariant-expressions_depth-loop-e l = record {
  small : l.depth ≡ capped l.depth;
  whole : capped (max l.depth (expressions_depth (expressions_of (map expression_of (drop l.e-index l.expressions))))) ≡ capped (expressions_depth (expressions_of (map expression_of l.expressions)));
}

abbrev pub invariant-statements_depth-loop-statement : goal.invariant-statements_depth-loop-statement
invariant-statements_depth-loop-statement l = record {
  small : l.depth ≡ capped l.depth;
  whole : capped (max l.depth (statements_depth (statements_of (map statement_of (drop l.statement-index l.statements))))) ≡ capped (statements_depth (statements_of (map statement_of l.statements)));
}
