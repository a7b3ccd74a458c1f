-- Demand 2: where another store takes our reply, what was held here is held there, and with it what is worked out, position by
-- position, as kd_held answers.
-- Assumes nothing.
use Rattle.std.specs.Prelude.{◌≡◌, List, ℕ, ◌+◌, ◌-◌, ◌/◌, ◌^◌, ◌<◌}
use Rattle.std.proofs.Common.{subst}
use Rattle.tree.specs.Geometry.{height}
use Rattle.settling.specs.Path.{sibling}
use Rattle.header.specs.declared.Header.{Header}
use Rattle.header.specs.Header.{header_of}
use Rattle.messages.specs.Take.{take_number, take_after}
use Rattle.serve.specs.Serve.{request_number, reply_to}
use Rattle.words.specs.Held.{Holds}
use Rattle.words.specs.Messages.{uncles_in, hash_in, top_layer, top_index, anchor_layer, anchor_index, Settles, in_run, as_uncle, ChainsTo}
use Rattle.knowledge.specs.TakenWhen.{taken_well_formed}
use Rattle.knowledge.specs.ReadBack.{reply_has_header, run_reads_back, uncle_reads_back}
use Rattle.knowledge.specs.ChainsTo.{chain_settles}
use Rattle.knowledge.specs.HeldAfter.{settles_then_holds}

module _ (s t m : List ℕ) (z : request_number s m ≡ 0) (y : take_number t (reply_to s m) ≡ 0) where
  same_header : header_of (reply_to s m) ≡ header_of m
  same_header = (reply_has_header s m z).2

  -- OUR REPLY, TAKEN BY ANOTHER STORE: whatever it settles is held there, each given hash with its bytes and each parent, the anchor
  -- among them, with the hash of its two children
  pub reply_held_there : (l i : ℕ) (v : List ℕ) → Settles (reply_to s m) l i v → Holds (take_after t (reply_to s m)) l i v
  reply_held_there = settles_then_holds t (reply_to s m) y

  -- so each hash of its run is held there with the bytes that were held here,
  pub run_held_there : (j : ℕ) → j < (header_of m).len
      → Holds s (header_of m).base ((header_of m).index + j) (hash_in (reply_to s m) j)
      × Holds (take_after t (reply_to s m)) (header_of m).base ((header_of m).index + j) (hash_in (reply_to s m) j)
  run_held_there j l = (
    run_reads_back s m z j l,
    subst (λ (x : Header). Holds (take_after t (reply_to s m)) x.base (x.index + j) (hash_in (reply_to s m) j)) same_header
        (reply_held_there _ _ _ (in_run j (rw same_header l))),
  )

  -- each uncle likewise,
  pub uncle_held_there : (i : ℕ) → i < uncles_in m
      → Holds s (top_layer m + i) (sibling (top_index m / 2 ^ i)) (hash_in (reply_to s m) ((header_of m).len + i))
      × Holds (take_after t (reply_to s m)) (top_layer m + i) (sibling (top_index m / 2 ^ i)) (hash_in (reply_to s m) ((header_of m).len + i))
  uncle_held_there i l = (
    uncle_reads_back s m z i l,
    subst (λ (x : Header). Holds (take_after t (reply_to s m)) (x.base + height x.len + i) (sibling (x.index / x.len / 2 ^ i)) (hash_in (reply_to s m) (x.len + i)))
        same_header (reply_held_there _ _ _ (as_uncle i (rw same_header l))),
  )

  -- and the anchor with the hash that the reply's hashes chain to
  pub anchor_held_there : (w : List ℕ) → ChainsTo (reply_to s m) w → Holds (take_after t (reply_to s m)) (anchor_layer m) (anchor_index m) w
  anchor_held_there w c =
      subst (λ (x : Header). Holds (take_after t (reply_to s m)) (x.base + height x.len + (x.proof - (height x.len - 1))) (x.index / x.len / 2 ^ (x.proof - (height x.len - 1))) w)
      same_header (reply_held_there _ _ _ ((chain_settles t (reply_to s m) (taken_well_formed t (reply_to s m) y) w).0 c))
