-- 00: "can a battery get younger between two messages?" A history is a file that only grows: today's begins with yesterday's. kd_extends decides it
-- from a store of today's file, yesterday's length and pieces root, and one block. G is the file that the store is of (`For`), F the earlier one, s a
-- store that only this build has written (`OurStore`); "held" is what kd_held answers. Its words: crates/words, file Younger; its definition:
-- crates/extends, file Extends. It writes nothing: it is lent the store as `&`.
-- Assumes nothing.
use Rattle.std.specs.Prelude.{◌≡◌, true, false, List, ◌++◌, ◌⊎◌, ◌↔◌, ℕ, ◌*◌, ◌≤◌, ◌<◌, length}
use Rattle.std.proofs.Common.{ap, sym, ◌∙◌, inl, inr, arith, length-append}
use Rattle.numbers.specs.Numbers.{rule_broken, wrong_size, no_anchor, differs, unusable, done, InTable}
use Rattle.numbers.specs.declared.Answer.{Answer}
use Rattle.tree.specs.Values.{pieces_root}
use Rattle.store.specs.Store.{usable, file_length, piece_length, blocks_of, height_of}
use Rattle.pieces.specs.Pieces.{layer_answer, layer_after}
use Rattle.asking.specs.Asking.{next_answer}
use Rattle.extends.specs.Extends.{whole_blocks, rest_size, over_size, extends_answer}
use Rattle.words.specs.Held.{Holds}
use Rattle.words.specs.History.{Bytes, Steps, OurStore}
use Rattle.words.specs.Shown.{held_by, of_file, Shown}
use Rattle.words.specs.File.{For}
use Rattle.words.specs.Younger.{BeginsWith, over_end, TwoStrings, Needed, InRange, Comparable, Leads, ExtendsGives, Follows, ShownAmong}
use Rattle.knowledge.specs.Younger.{first_extends, first_of, same_length_same}

-- ---- each number exactly when, of any bytes s

module _ (s : List ℕ) (n : ℕ) (root block : List ℕ) where
  pub extends_9 : ((extends_answer s n root block).number ≡ unusable) ↔ (usable s ≡ false)
  extends_9 = Rattle.knowledge.specs.YoungerNumbers.extends_9 s n root block

  -- the earlier length is 0 or above the store's;
  pub extends_3 : ((extends_answer s n root block).number ≡ rule_broken) ↔ ((usable s ≡ true) × (InRange s n → ⊥))
  extends_3 = Rattle.knowledge.specs.YoungerNumbers.extends_3 s n root block

  -- the block has another size than the file's block over the earlier end, or than none;
  pub extends_4 : ((extends_answer s n root block).number ≡ wrong_size) ↔ ((usable s ≡ true) × InRange s n × (length block ≡ over_size (file_length s) n → ⊥))
  extends_4 = Rattle.knowledge.specs.YoungerNumbers.extends_4 s n root block

  -- a hash that is needed isn't held;
  pub extends_6 : ((extends_answer s n root block).number ≡ no_anchor) ↔ (Comparable s n block × (Needed s n → ⊥))
  extends_6 = Rattle.knowledge.specs.YoungerNumbers.extends_6 s n root block

  -- all are, and the block isn't the one held or they lead to another root;
  pub extends_7 : ((extends_answer s n root block).number ≡ differs) ↔ (Comparable s n block × Needed s n × (Leads s n root block → ⊥))
  extends_7 = Rattle.knowledge.specs.YoungerNumbers.extends_7 s n root block

  -- all are, and lead to this one
  pub extends_0 : ((extends_answer s n root block).number ≡ 0) ↔ (Comparable s n block × Needed s n × Leads s n root block)
  extends_0 = Rattle.knowledge.specs.YoungerNumbers.extends_0 s n root block

  -- no other number is given; the count is the earlier length beside 0, and else 0
  pub extends_gives : ExtendsGives (extends_answer s n root block).number
  extends_gives = Rattle.knowledge.specs.YoungerNumbers.extends_gives s n root block

  pub extends_in_table : InTable (extends_answer s n root block).number
  extends_in_table = Rattle.knowledge.specs.YoungerNumbers.extends_in_table s n root block

  pub extends_done : (extends_answer s n root block).number ≡ 0 → extends_answer s n root block ≡ done n
  extends_done = Rattle.knowledge.specs.YoungerNumbers.extends_done s n root block

  pub extends_beside : ((extends_answer s n root block).number ≡ 0 → ⊥) → (extends_answer s n root block).count ≡ 0
  extends_beside = Rattle.knowledge.specs.YoungerNumbers.extends_beside s n root block

-- ---- SOUND: answered 0, G begins with F, every byte of it, or two different strings with one SHA-256 are shown;

module _ {s : List ℕ} (G : List ℕ) (o : OurStore s) (w : For G s) (F block : List ℕ) (bg : Bytes G) (bf : Bytes F) (bb : Bytes block)
    (z : (extends_answer s (length F) (pieces_root F) block).number ≡ 0) where
  pub begins_with : TwoStrings F G s block ⊎ BeginsWith G F
  begins_with = Rattle.knowledge.specs.Younger.begins_with G o w F block bg bf bb z

  -- and where the lengths are the same too, the files are
  pub the_same : length F ≡ file_length s → TwoStrings F G s block ⊎ (G ≡ F)
  the_same e = elim begins_with [ inl x ↦ inl x | inr b ↦ inr (same_length_same G F b (e ∙ w.long)) ]

-- ---- COMPLETE: a file that goes on from F, which isn't empty, is answered 0 where the hashes needed are held and the block is the file's, or a pair
-- is shown;

pub true_extension : {s : List ℕ} (F more : List ℕ) → OurStore s → For (F ++ more) s → 0 < length F → Needed s (length F)
    → Shown (height_of s) (held_by s) (of_file (F ++ more)) ⊎ (extends_answer s (length F) (pieces_root F) (over_end (F ++ more) (length F)) ≡ done (length F))
true_extension {s} F more o w some N =
    elim (first_extends (F ++ more) o w (length F) some (omega (arith, length-append F more)) N) [
      | inl x ↦ inl x
      | inr e ↦ inr (ap (λ (x : List ℕ). extends_answer s (length F) (pieces_root x) (over_end (F ++ more) (length F))) (sym (first_of F more)) ∙ e)
    ]

-- so 7, with the file's own block, says that G does not begin with F: another history, or a pair is shown
pub another_history : {s : List ℕ} (G F : List ℕ) → OurStore s → For G s → (extends_answer s (length F) (pieces_root F) (over_end G (length F))).number ≡ differs
    → BeginsWith G F → Shown (height_of s) (held_by s) (of_file G)
another_history {s} G F o w z b =
    let t = (extends_7 s (length F) (pieces_root F) (over_end G (length F))).0 z in
    let q = b.whole in
    elim (true_extension F b.more o (rw q at w) t.0.range.0 t.1) [
      | inl x ↦ rw q x
      | inr e ↦
          let y : extends_answer s (length F) (pieces_root F) (over_end G (length F)) ≡ done (length F) =
          ap (λ (x : List ℕ). extends_answer s (length F) (pieces_root F) (over_end x (length F))) q ∙ e in
          let v : ⊥ = omega (arith, sym z ∙ ap (λ (r : Answer). r.number) y) in
          absurd v
    ]

-- ---- over a store's history an answer other than 6 stays,

pub answer_stays : {s t : List ℕ} (n : ℕ) (root block : List ℕ) → usable s ≡ true → Steps s t → ((extends_answer s n root block).number ≡ no_anchor → ⊥)
    → extends_answer t n root block ≡ extends_answer s n root block
answer_stays = Rattle.knowledge.specs.YoungerSince.extends_stays

-- and 6 changes exactly once the hashes needed are held
pub answer_changes : {s t : List ℕ} (n : ℕ) (root block : List ℕ) → usable s ≡ true → Steps s t
    → ((extends_answer t n root block).number ≡ (extends_answer s n root block).number → ⊥) ↔ (((extends_answer s n root block).number ≡ no_anchor) × Needed t n)
answer_changes = Rattle.knowledge.specs.YoungerSince.extends_changes

-- ---- which hashes are enough: the leaves of all blocks, of whichever earlier length,

pub leaves_enough : {s : List ℕ} → OurStore s → ((i : ℕ) → i < blocks_of s → (v : List ℕ) × Holds s 0 i v) → (n : ℕ) → n ≤ file_length s → Needed s n
leaves_enough = Rattle.knowledge.specs.YoungerSince.leaves_enough

-- or, where the earlier file ends inside block w, leaf w alone: the peaks stand beside its path, and so are held;
pub leaf_enough : {s : List ℕ} → OurStore s → (n : ℕ) → n ≤ file_length s → (rest_size n ≡ 0 → ⊥) → (v : List ℕ) → Holds s 0 (whole_blocks n) v → Needed s n
leaf_enough = Rattle.knowledge.specs.YoungerLeaf.leaf_enough

-- so that after "nothing to ask" of layer 0 it is never 6, whatever is asked and whatever has happened since;
pub never_6_asked : {s t : List ℕ} → OurStore s → (next_answer s 0).number ≡ 0 → (next_answer s 0).asks ≡ 0 → Steps s t
    → (n : ℕ) (root block : List ℕ) → (extends_answer t n root block).number ≡ no_anchor → ⊥
never_6_asked = Rattle.knowledge.specs.YoungerSince.never_6_asked

-- and of an earlier length of whole pieces it is never 6 once the piece layer was loaded
pub never_6_loaded : {t : List ℕ} (s layer : List ℕ) → (layer_answer s layer).number ≡ 0 → Steps (layer_after s layer) t
    → (n k : ℕ) → n ≡ piece_length s * k → (root block : List ℕ) → (extends_answer t n root block).number ≡ no_anchor → ⊥
unfolding layer_answer
never_6_loaded = Rattle.knowledge.specs.YoungerSince.never_6_loaded

-- ---- NEVER YOUNGER: through any chain of such answers the last file begins with the first, or at one of them two different strings with one SHA-256
-- are shown

pub never_younger : {F H : List ℕ} (c : Follows F H) → ShownAmong H c ⊎ BeginsWith H F
never_younger = Rattle.knowledge.specs.Younger.follows
