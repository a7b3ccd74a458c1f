-- A store names what it was opened with, whatever calls came since.
-- Assumes nothing.
use Rattle.std.specs.Prelude.{◌≡◌, List, ℕ, length}
use Rattle.std.proofs.Common.{ap, sym, ◌∙◌}
use Rattle.store.specs.Store.{file_length, piece_length, facts_root, open_answer, open_after, Facts}
use Rattle.store.specs.StoreLaws.{facts_usable, opened_file, opened_piece, opened_facts_root, opened_facts}
use Rattle.facts.specs.Facts.{facts_answer}
use Rattle.facts.specs.FactsLaws.{facts_read}
use Rattle.words.specs.History.{Steps}
use Rattle.knowledge.specs.Grows.{steps_grow}
use Rattle.knowledge.specs.RootAlone.{range_exactly, opening_0, opening_leaves}

pub facts_kept : (b : List ℕ) (n plen : ℕ) (root : List ℕ) → length root ≡ 32 → (open_answer b n plen).number ≡ 0 → {t : List ℕ} → Steps (open_after b n plen root) t
    → facts_answer t ≡ record { number = 0; length = n; plen = plen; root = root }
facts_kept b n plen root size z {t} h =
    let w = (opening_0 b n plen).0 z in
    let ok = (range_exactly n plen).1 w.0 in
    let e = opening_leaves b n plen root z in
    let f : Facts (open_after b n plen root) = rw e (opened_facts b n plen root ok w.1 size) in
    let g = steps_grow f h in
    let file : n ≡ file_length t = sym (g.same.file ∙ ap file_length e ∙ opened_file b n plen root ok w.1 size) in
    let piece : plen ≡ piece_length t = sym (g.same.piece ∙ ap piece_length e ∙ opened_piece b n plen root ok w.1 size) in
    let named : root ≡ facts_root t = sym (g.same.root ∙ ap facts_root e ∙ opened_facts_root b n plen root ok w.1 size) in
    sym (facts_read t n plen root (facts_usable t g.facts) file piece named)
