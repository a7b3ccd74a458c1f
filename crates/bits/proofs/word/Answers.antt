use Rattle.std.specs.Int.{from_be_bytes, w32}
use Rattle.std.proofs.Common.{take, ap, ◌∙◌}
use Rattle.std.proofs.lemmas.List.{take_rest}
use Rattle.bits.proofs.BytesOfAWord.{be_word}
use Rattle.bits.proofs.word.Goals as goal

pub returns : goal.returns
returns c = let a = c.args in
    let e = (rw c.unwrap.ensures at c.first_chunk.ensures.cases).same ∙ ap (take 4) (take_rest a.bytes.now a.index) in
    c.from_be_bytes.ensures ∙ ap (from_be_bytes w32) e ∙ be_word a.bytes.now a.index
