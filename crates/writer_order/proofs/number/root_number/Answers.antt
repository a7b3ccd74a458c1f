use Rattle.std.proofs.Common.{arith, sym, ◌∙◌, rules}
use Rattle.std.proofs.lemmas.Bool.{false≢true}
use Rattle.writer_order.specs.InOrderLaws.{lengths_told, layers_told}
use Rattle.writer_order.specs.NumberLaws.{has_lengths, has_misfit, layers_differ, nothing_wrong}
use Rattle.writer_lists.specs.Lists.{content_of}
use Rattle.writer_meaning.specs.Number.{misfit}
use Rattle.writer_order.proofs.number.root_number.Goals as goal

pub returns-then-rest-gt-LARGEST_TORRENT : goal.returns-then-rest-gt-LARGEST_TORRENT
returns-then-rest-gt-LARGEST_TORRENT c = λ s p. let w : ⊥ = omega (arith, s, c.if-rest-gt-LARGEST_TORRENT.true) in absurd w

pub returns-then-not-is_piece_length : goal.returns-then-not-is_piece_length
returns-then-not-is_piece_length c = λ s p. absurd (false≢true (sym (sym c.is_piece_length.ensures ∙ c.if-not-is_piece_length.true) ∙ p))

pub lengths_clash-requires : goal.lengths_clash-requires
lengths_clash-requires c = c.requires.1.placed

pub returns-then-lengths_clash : goal.returns-then-lengths_clash
returns-then-lengths_clash c = let l = c.args.list.now in let t = c.args.text.now in
    let q = c.args.plen in let o = c.requires.1 in λ s p. has_lengths q (content_of l t)
    (sym (lengths_told l t _ o q) ∙ sym (c.lengths_clash.ensures q) ∙ c.if-lengths_clash.true)

pub returns-then-one_fails : goal.returns-then-one_fails
returns-then-one_fails c = let l = c.args.list.now in let t =
    c.args.text.now in let q = c.args.plen in let o = c.requires.1 in let a = sym (lengths_told l t _ o q) ∙ sym
    (c.lengths_clash.ensures q) ∙ c.if-lengths_clash.false in λ s p. has_misfit q (content_of l t) a
    (sym (c.one_fails.ensures (misfit q) (λ p r m e. search rules)) ∙ c.if-one_fails.true)

pub layers_clash-requires : goal.layers_clash-requires
layers_clash-requires c = (c.requires.1.placed, sym c.is_piece_length.ensures ∙ c.if-not-is_piece_length.false)

pub returns-then-layers_clash : goal.returns-then-layers_clash
returns-then-layers_clash c = let l =
    c.args.list.now in let t = c.args.text.now in let q = c.args.plen in let o = c.requires.1 in let a = sym
    (lengths_told l t _ o q) ∙ sym (c.lengths_clash.ensures q) ∙
    c.if-lengths_clash.false in λ s p. layers_differ q (content_of l t) a
    (sym (c.one_fails.ensures (misfit q) (λ p r m e. search rules)) ∙ c.if-one_fails.false)
    (sym (layers_told l t _ o q a) ∙ sym c.layers_clash.ensures ∙ c.if-layers_clash.true)

pub returns : goal.returns
returns c = let l =
    c.args.list.now in let t = c.args.text.now in let q = c.args.plen in let o = c.requires.1 in let a = sym
    (lengths_told l t _ o q) ∙ sym (c.lengths_clash.ensures q) ∙
    c.if-lengths_clash.false in λ s p. nothing_wrong q (content_of l t) a
    (sym (c.one_fails.ensures (misfit q) (λ p r m e. search rules)) ∙ c.if-one_fails.false)
    (sym (layers_told l t _ o q a) ∙ sym c.layers_clash.ensures ∙ c.if-layers_clash.false)
