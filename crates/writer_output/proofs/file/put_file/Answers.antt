use Rattle.std.proofs.Common.{List, arith, ℕ, length, ap}
use Rattle.bencode.specs.Grammar.{letter_e}
use Rattle.writer_output.specs.Path.{left_in}
use Rattle.writer_output.specs.Files.{file_in}
use Rattle.writer_meaning.specs.Content.{properties}
use Rattle.writer_output.specs.FilesLaws.{file_length_lem, put_parts, properties_read, put_read}
use Rattle.std.proofs.lemmas.List.{length-replicate}
use Rattle.writer_output.proofs.file.put_file.Goals as goal

pub put_closed-closed-requires : goal.put_closed-closed-requires
put_closed-closed-requires c = (
  c.shared_end-m.ensures.first,
  omega (
    arith,
    file_length_lem c.args.one.now
        c.args.other.now c.shared_end-m.result
        (properties (file_in c.args.list.now
        c.args.place)) c.shared_end-m.ensures,
    c.requires.3,
  ),
)

pub put_opened-opened-requires : goal.put_opened-opened-requires
put_opened-opened-requires c = (
  c.shared_end-m.ensures.second,
  let e =
      c.put_closed-closed.ensures.behind in omega (
        arith,
        file_length_lem c.args.one.now
            c.args.other.now
            c.shared_end-m.result
            (properties (file_in c.args.list.now
            c.args.place))
            c.shared_end-m.ensures,
        c.requires.3,
        length-replicate {A = ℕ}
            (length (left_in c.args.one.now
            c.shared_end-m.result)) letter_e,
      ),
)

pub put_properties-requires : goal.put_properties-requires
put_properties-requires c = let e = c.put_closed-closed.ensures.behind in let g =
    c.put_opened-opened.ensures.behind in omega (
      arith,
      file_length_lem c.args.one.now
          c.args.other.now c.shared_end-m.result
          (properties (file_in c.args.list.now
          c.args.place)) c.shared_end-m.ensures,
      c.requires.3,
      length-replicate {A = ℕ}
          (length (left_in c.args.one.now c.shared_end-m.result)) letter_e,
      ap
          (λ (l : List ℕ). length l) (properties_read c.args.list.now
          c.args.place _ c.number_at-size.ensures.0),
    )

pub returns : goal.returns
returns c = put_parts c.args.one.now
    c.args.other.now
    c.shared_end-m.result
    (properties (file_in c.args.list.now
    c.args.place))
    c.shared_end-m.ensures _ _ _ _ _ _ _ _ c.put_closed-closed.ensures
    c.put_opened-opened.ensures
    (put_read c.args.list.now
    c.args.place _
    c.number_at-size.ensures.0 _ _ _ _ c.put_properties.ensures)
    c.put_closed-closed.auto.out c.put_opened-opened.auto.out
