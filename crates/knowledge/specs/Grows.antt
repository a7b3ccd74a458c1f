-- Demand 3: knowledge only grows.
-- Assumes nothing.
use Rattle.std.specs.Prelude.{◌≡◌, refl, true, List, ℕ, ◌+◌, ◌^◌, ◌≤◌, ◌<◌, length}
use Rattle.std.proofs.Common.{◌∙◌, eq-eqb, ne_eqb}
use Rattle.std.proofs.Math.Decide.{ℕ_discrete}
use Rattle.cells.specs.Cells.{held_at, hash_at}
use Rattle.cells.specs.Entries.{Entry, agrees, put_all}
use Rattle.cells.specs.EntriesLaws.{Sound, keeps, FromRoot}
use Rattle.store.specs.Store.{height_of, positions, Facts, SameFacts}
use Rattle.store.specs.StoreLaws.{put_all_same_facts, put_all_facts, used_same, used_facts, used_held, used_hash}
use Rattle.header.specs.Header.{header_of}
use Rattle.messages.specs.Take.{settled, place_in, take_number, take_after}
use Rattle.messages.specs.TakenLaws.{ready_from_root, ready_settled, taken_ready}
use Rattle.pieces.specs.Pieces.{layer_number, layer_after}
use Rattle.pieces.proofs.PiecesLaws.{layer_refused, layer_same_facts, layer_facts, layer_keeps}
use Rattle.words.specs.History.{SameStore, Steps}
use Rattle.marks.specs.Marks.{marks_put}
use Rattle.marks.specs.MarksLaws.{marks_same_facts, marks_facts}
use Rattle.knowledge.specs.MarksApart.{marks_held, marks_hash}
use Rattle.knowledge.specs.Through.{Preserved, through}
use Rattle.knowledge.specs.TakenWhen.{taken_then_right, taken_well_formed}

-- the facts are the same, and what s holds t holds with the same bytes
pub record Grown (s t : List ℕ) : Type 0 where
  pub same : SameFacts s t
  pub facts : Facts t
  pub kept : (q : ℕ) → q < positions (height_of s) → held_at s q ≡ true → (held_at t q ≡ true) × (hash_at t q ≡ hash_at s q)

-- nothing done
pub grown_same : (s : List ℕ) → Facts s → Grown s s
grown_same s f =
    record {
      same = record { file = refl; piece = refl; root = refl; blocks = refl; layers = refl };
      facts = f;
      kept = λ q l h. (h, refl);
    }

-- one after the other
pub grown_on : {s t u : List ℕ} → Grown s t → Grown t u → Grown s u
grown_on {s} {t} {u} a b =
    record {
      same =
          record {
            file = b.same.file ∙ a.same.file;
            piece = b.same.piece ∙ a.same.piece;
            root = b.same.root ∙ a.same.root;
            blocks = b.same.blocks ∙ a.same.blocks;
            layers = b.same.layers ∙ a.same.layers;
          };
      facts = b.facts;
      kept =
          λ q l h.
          let k = a.kept q l h in
          let l' : q < positions (height_of t) = rw a.same.layers l in
          let k' = b.kept q l' k.0 in
          (k'.0, k'.1 ∙ k.1);
    }

-- a list that agrees with what is held only adds to it
pub grown_put_all : (s : List ℕ) (L : List Entry) → Facts s → Sound (positions (height_of s)) L → FromRoot L → agrees s L ≡ true → Grown s (put_all s L)
grown_put_all s L f S r a =
    record {
      same = put_all_same_facts s f L S r;
      facts = put_all_facts s f L S r;
      kept = λ q l h. keeps (positions (height_of s)) L s f.room S a q l h;
    }

-- ---- each step

-- a taken message writes no byte of the facts
pub taken_from_root : (s m : List ℕ) → take_number s m ≡ 0 → FromRoot (settled m (place_in s m))
taken_from_root s m z = ready_from_root (length s) m (height_of s) (header_of m) (place_in s m) (taken_ready s m (take_number s m) refl z)

-- a message, whatever it gets
pub grown_take : (s m : List ℕ) → Facts s → Grown s (take_after s m)
unfolding take_after
grown_take s m f =
    elim (ℕ_discrete (take_number s m) 0) [
      | yes z ↦
          let r = taken_ready s m (take_number s m) refl z in
          let w = taken_then_right s m (taken_well_formed s m z) z in
          rw (eq-eqb (take_number s m) 0 z)
          (grown_put_all s (settled m (place_in s m)) f (ready_settled (length s) m (height_of s) (header_of m) (place_in s m) r) (taken_from_root s m z) w.agree)
      | no ne ↦ rw (ne_eqb (take_number s m) 0 ne) (grown_same s f)
    ]

-- a layer, whatever it gets
pub grown_layer : (s l : List ℕ) → Facts s → Grown s (layer_after s l)
grown_layer s l f =
    elim (ℕ_discrete (layer_number s l) 0) [
      | yes z ↦ record { same = layer_same_facts s l z; facts = layer_facts s l z; kept = layer_keeps s l z }
      | no ne ↦ rw (layer_refused s l ne) (grown_same s f)
    ]

-- other bytes behind the store
pub grown_moved : (s t : List ℕ) → Facts s → SameStore s t → Grown s t
grown_moved s t f e =
    record {
      same = used_same s t f e.bytes;
      facts = used_facts s t f e.bytes;
      kept = λ q l h. (used_held s t f e.bytes q l ∙ h, used_hash s t f e.bytes q l);
    }

-- marks written
pub grown_marks : (s : List ℕ) (i n x : ℕ) → Facts s → i + n ≤ 2 ^ height_of s → Grown s (marks_put s i n x)
grown_marks s i n x f fits =
    record {
      same = marks_same_facts s f i n x fits;
      facts = marks_facts s f i n x fits;
      kept = λ q l h. (marks_held s f i n x fits q l ∙ h, marks_hash s f i n x fits q l);
    }

-- through any steps
pub steps_grow : {s t : List ℕ} → Facts s → Steps s t → Grown s t
steps_grow {s} f h = through (Grown s) each h (grown_same s f)
  where
    each : Preserved (Grown s)
    each =
        record {
          taken = λ t m b g. grown_on g (grown_take t m g.facts);
          loaded = λ t l b g. grown_on g (grown_layer t l g.facts);
          remarked = λ t i n x f l o g. grown_on g (grown_marks t i n x f l);
          moved = λ t u b e g. grown_on g (grown_moved t u g.facts e);
        }
