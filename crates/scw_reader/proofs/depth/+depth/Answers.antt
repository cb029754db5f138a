use Rattle.std.proofs.Common.{rules, ◌+◌, suc, max, drop, map, ap, ◌∙◌, arith}
use Rattle.std.proofs.lemmas.Grind.{common_steps}
use Rattle.scw_reader.specs.declared.tree.Atom.{the_lemmas}
use Rattle.scw_reader.specs.View.{product_of, atom_of, products_of, atoms_of}
use Rattle.scw_reader.specs.Limits.{products_depth, product_depth, atoms_depth, atom_depth}
use Rattle.scw_reader.specs.Capped.{capped}
use Rattle.scw_reader.proofs.DepthLemmas.{products_depth-capped, atoms_depth-capped, products_step, atoms_step}
use Rattle.scw_reader.proofs.depth.+depth.Goals as goal

pub expression_depth-returns-in-Sum : goal.expression_depth-returns-in-Sum
expression_depth-returns-in-Sum t c =
    let same = products_depth-capped (products_of (map product_of c.in-Sum.more.items)) (product_depth (product_of c.in-Sum.first)) in
    first_of (search rules, grind (arith, common_steps), search (rules, the_lemmas), grind (arith, common_steps, the_lemmas))

pub products_depth-loop-product-preserved : goal.products_depth-loop-product-preserved
products_depth-loop-product-preserved t c = record {
  small = omega (arith, c.above-depth.ensures);
  whole =
      ap (λ k. capped (products_depth k (products_of (map product_of (drop (c.loop-product.product-index + 1) c.args.more.now))))) (c.above-depth.ensures ∙ ap (λ m. capped (suc m)) (c.max.ensures ∙ ap (max c.loop-product.depth) c.product_depth.ensures))
      ∙ products_step c.args.more.now c.loop-product.product-index c.loop-product.depth c.product-item.result c.loop-product-test.true c.product-item.is ∙ c.loop-product.invariant.whole;
}

pub product_depth-returns : goal.product_depth-returns
product_depth-returns t c =
    let same = atoms_depth-capped (atoms_of (map atom_of c.deref.result.now)) (atom_depth (atom_of c.args.product.now.first)) in
    first_of (search rules, grind (arith, common_steps), search (rules, the_lemmas), grind (arith, common_steps, the_lemmas))

pub atoms_depth-loop-atom-preserved : goal.atoms_depth-loop-atom-preserved
atoms_depth-loop-atom-preserved t c = record {
  small = omega (arith, c.above-depth.ensures);
  whole =
      ap (λ k. capped (atoms_depth k (atoms_of (map atom_of (drop (c.loop-atom.atom-index + 1) c.args.more.now))))) (c.above-depth.ensures ∙ ap (λ m. capped (suc m)) (c.max.ensures ∙ ap (max c.loop-atom.depth) c.atom_depth.ensures))
      ∙ atoms_step c.args.more.now c.loop-atom.atom-index c.loop-atom.depth c.atom-item.result c.loop-atom-test.true c.atom-item.is ∙ c.loop-atom.invariant.whole;
}
