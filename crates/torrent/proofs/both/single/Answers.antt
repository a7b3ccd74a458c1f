use Rattle.std.proofs.Common.{sym, ◌∙◌}
use Rattle.torrent.specs.HalvesFitLaws.{single_count, single_no_length, single_no_name, single_is}
use Rattle.hybrid.specs.HalfLaws.{read_count}
use Rattle.bencode.specs.Parts.{lookup}
use Rattle.halves.specs.V1Keys.{key_name}
use Rattle.torrent.specs.KeyStringLaws.{none_string}
use Rattle.octets.specs.Octets.{cut}
use Rattle.filetree.specs.Tree.{files_in, listed}
use Rattle.torrent.proofs.both.single.Goals as goal

pub returns-then-files-ne1 : goal.returns-then-files-ne1
returns-then-files-ne1 c = let t = c.args.tree.now in λ info s q plen h. single_count info _ q (λ z. c.if-files-ne1.true (c.requires.1 ∙ sym (read_count t (listed (files_in t))) ∙ z)) plen

pub slice_bounds-alone-count : goal.slice_bounds-alone-count
slice_bounds-alone-count c = let w = (c.in-Text.ensures key_name c.requires.2) in w.ends.0

pub slice_bounds-alone-start : goal.slice_bounds-alone-start
slice_bounds-alone-start c = let w = (c.in-Text.ensures key_name c.requires.2) in w.ends.0

pub slice_bounds-alone-end : goal.slice_bounds-alone-end
slice_bounds-alone-end c = let w = (c.in-Text.ensures key_name c.requires.2) in w.ends.1

pub returns-in-None : goal.returns-in-None
returns-in-None c = λ info s q plen h. single_no_length info _ q (sym c.in-None.is ∙ c.length_of.ensures info s) plen

pub returns-in-NoKey : goal.returns-in-NoKey
returns-in-NoKey c = λ info s q plen h. let w = (c.in-NoKey.ensures key_name c.requires.2) in single_no_name info _ q _ (sym c.in-Some.is ∙ c.length_of.ensures info s) (none_string (lookup key_name info) (w.string info s)) plen

pub returns-in-OtherType : goal.returns-in-OtherType
returns-in-OtherType c = λ info s q plen h. let w = (c.in-OtherType.ensures key_name c.requires.2) in single_no_name info _ q _ (sym c.in-Some.is ∙ c.length_of.ensures info s) (w.string info s).1 plen

pub returns-else-files-ne1 : goal.returns-else-files-ne1
unfolding cut
returns-else-files-ne1 c = λ info s q plen h. let w = (c.in-Text.ensures key_name c.requires.2) in single_is info _ q _ _ plen _ (sym c.in-Some.is ∙ c.length_of.ensures info s) (w.string info s).0 (w.string info s).1 (c.alone.ensures plen h)
