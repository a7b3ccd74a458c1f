use Rattle.std.proofs.Common.{List, arith, ℕ, length, ap}
use Rattle.bencode.specs.Grammar.{encode_string}
use Rattle.writer_output.specs.LayersLaws.{put_repeated, entry_length, put_entry, layer_end, layer_slice}
use Rattle.writer_output.proofs.layer.put_layer.Goals as goal

pub returns-then-root_repeats : goal.returns-then-root_repeats
returns-then-root_repeats c = put_repeated c.args.list.now c.args.text.now
    c.args.place c.args.last _ c.root_repeats.ensures c.if-root_repeats.true _ _

pub put_string-value-requires : goal.put_string-value-requires
put_string-value-requires c = omega (
  arith,
  entry_length c.args.list.now
      c.args.text.now
      c.args.place
      c.args.last _
      c.root_repeats.ensures c.if-root_repeats.false,
  c.requires.2,
)

pub slice_bounds-put_string-end-2 : goal.slice_bounds-put_string-end-2
slice_bounds-put_string-end-2 c = layer_end c.args.list.now
    c.args.text.now
    c.args.place _ _
    c.requires.0
    c.number_at-start.ensures.0
    c.number_at-size.ensures.0

pub put_string-requires : goal.put_string-requires
put_string-requires c = let e = c.put_string-value.ensures.behind in omega (
  arith,
  entry_length c.args.list.now c.args.text.now
      c.args.place c.args.last _ c.root_repeats.ensures
      c.if-root_repeats.false,
  c.requires.2,
  ap (λ (l : List ℕ). length (encode_string l))
      (layer_slice c.args.list.now c.args.text.now
      c.args.place _ _ c.requires.0
      c.number_at-start.ensures.0
      c.number_at-size.ensures.0),
)

pub returns : goal.returns
returns c = put_entry c.args.list.now
    c.args.text.now
    c.args.place
    c.args.last _ c.root_repeats.ensures
    c.if-root_repeats.false _ (layer_slice c.args.list.now
    c.args.text.now
    c.args.place _ _
    c.requires.0 c.number_at-start.ensures.0
    c.number_at-size.ensures.0) _ _ _ _ _ _ c.put_string-value.ensures
    c.put_string.ensures c.put_string-value.auto.out
