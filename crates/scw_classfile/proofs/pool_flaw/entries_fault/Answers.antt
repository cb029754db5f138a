use Rattle.std.proofs.Common.{◌≡◌, ◌∙◌, ◌+◌, ◌-◌, Some, length, take, sym, ap, arith}
use Rattle.std.proofs.lemmas.List.Folds.{length-flat_map-take}
use Rattle.std.specs.List.{flat_map}
use Rattle.std.specs.Option.{option_map}
use Rattle.scw_classfile.specs.Codec.{fault_in}
use Rattle.scw_classfile.specs.Pool.{entry_bytes}
use Rattle.scw_classfile.proofs.PoolFlawLemmas.{flaw_here, goes_past, no_flaw_left}
use Rattle.scw_classfile.proofs.pool_flaw.entries_fault.Goals as goal

pub entries_size-requires : goal.entries_size-requires
entries_size-requires c = omega (arith, length-flat_map-take entry_bytes c.args.entries.now c.loop-i.i c.index-entries-i.result c.loop-i-test.true, c.requires)

pub returns-in-Some : goal.returns-in-Some
returns-in-Some c =
    let xs = c.args.entries.now in
    let i = c.loop-i.i in
    let after = 2 + length (flat_map entry_bytes (take i xs)) in
    let flaw = c.in-Some.flaw in
    let here = flaw_here c.args.major c.args.kinds.now xs i c.index-entries-i.result c.loop-i-test.true c.index-entries-i.is after c.args.left flaw (sym c.entry_flaw.ensures ∙ c.in-Some.is) in
    let left : c.saturating_sub-before.result ≡ c.args.left - after = omega (arith, c.entries_size.ensures) in
    ap (λ f. Some f) c.in_part.ensures ∙ ap (λ n. Some (fault_in n flaw)) left ∙ sym here ∙ sym (ap (option_map (fault_in c.args.left)) c.loop-i.invariant)

pub loop-i-preserved : goal.loop-i-preserved
loop-i-preserved c = c.loop-i.invariant ∙ goes_past c.args.major c.args.kinds.now c.args.entries.now c.loop-i.i c.index-entries-i.result c.loop-i-test.true c.index-entries-i.is (sym c.entry_flaw.ensures ∙ c.in-None.is)

pub returns : goal.returns
returns c = sym (ap (option_map (fault_in c.args.left)) (c.loop-i.invariant ∙ no_flaw_left c.args.major c.args.kinds.now (2 + length (flat_map entry_bytes (take c.loop-i.i c.args.entries.now))) c.loop-i.i c.args.entries.now c.loop-i-test.false))
