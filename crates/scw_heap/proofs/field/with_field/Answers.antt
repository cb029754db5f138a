use Rattle.std.proofs.Common.{◌≡◌, ◌<◌, ◌*◌, ◌%◌, ◌^◌, refl, arith}
use Rattle.std.proofs.lemmas.Nat.{shl_whole}
use Rattle.scw_heap.specs.Layout.{field, with_field}
use Rattle.scw_heap.proofs.FieldLemmas.{field-lt, with_field-within}
use Rattle.scw_heap.proofs.field.with_field.Goals as goal

pub overflow_add-result : goal.overflow_add-result
overflow_add-result c =
    let a : c.args.v * 2 ^ c.args.shift % 2 ^ 64 ≡ c.args.v * 2 ^ c.args.shift =
    shl_whole _ c.args.width c.args.shift 64 c.requires.narrow (omega arith) in
    let d : field c.args.word c.args.shift c.args.width * 2 ^ c.args.shift % 2 ^ 64 ≡ field c.args.word c.args.shift c.args.width * 2 ^ c.args.shift =
    shl_whole _ c.args.width c.args.shift 64 (field-lt c.args.word c.args.shift c.args.width) (omega arith) in
    let h : with_field c.args.word c.args.shift c.args.width c.args.v < 2 ^ 64 =
    with_field-within c.args.word c.args.shift c.args.width c.args.v c.ranges.word.fits c.requires.within c.requires.narrow in
    rw (c.field.ensures, d, a) (omega arith)

pub returns : goal.returns
returns c =
    let a : c.args.v * 2 ^ c.args.shift % 2 ^ 64 ≡ c.args.v * 2 ^ c.args.shift =
    shl_whole _ c.args.width c.args.shift 64 c.requires.narrow (omega arith) in
    let d : field c.args.word c.args.shift c.args.width * 2 ^ c.args.shift % 2 ^ 64 ≡ field c.args.word c.args.shift c.args.width * 2 ^ c.args.shift =
    shl_whole _ c.args.width c.args.shift 64 (field-lt c.args.word c.args.shift c.args.width) (omega arith) in
    rw (c.field.ensures, d, a) refl
