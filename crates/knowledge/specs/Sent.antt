-- Demand 2, from the call to the reply: what kd_serve leaves in the output beside 0 is the reply that is read back as what was held.
-- Assumes nothing.
use Rattle.std.specs.Prelude.{◌≡◌, refl, Bool, true, false, cond, List, ℕ, suc, ◌+◌, ◌*◌, ◌/◌, ◌^◌, ◌<◌, length, leb}
use Rattle.std.proofs.Common.{ap, ◌∙◌, arith}
use Rattle.std.proofs.Math.Decide.{dec_le}
use Rattle.octets.specs.OctetsLaws.{cut_pasted_same}
use Rattle.numbers.specs.Numbers.{refused, done}
use Rattle.numbers.specs.declared.Answer.{Answer}
use Rattle.sha256.specs.Sha256.{pair_hash}
use Rattle.settling.specs.Path.{sibling}
use Rattle.header.specs.Header.{header_of, message_root, is_hashes, message_size}
use Rattle.messages.specs.Take.{take_number, take_after, take_answer}
use Rattle.serve.specs.Serve.{request_number, reply_to, sent_back, unanswered, serve_answer}
use Rattle.serve.specs.ServeLaws.{fits_sent, fits_not, served_reply}
use Rattle.words.specs.Held.{Holds}
use Rattle.words.specs.History.{OurStore}
use Rattle.words.specs.Messages.{uncles_in, hash_in, top_layer, top_index, anchor_layer, anchor_index, Settles, parent, ChainsTo, sent}
use Rattle.knowledge.specs.Replies.{own_reply}
use Rattle.knowledge.specs.ReadBack.{reply_has_header, run_reads_back, uncle_reads_back}
use Rattle.knowledge.specs.HeldAfter.{settles_then_holds}
use Rattle.knowledge.specs.ReadThere.{run_held_there, uncle_held_there, anchor_held_there}

zero_then_zero : (none fits : Bool) (n count : ℕ) → (cond none (refused n) (cond fits (record { number = n; count = count }) (refused 11))).number ≡ 0 → n ≡ 0
zero_then_zero true fits n count e = e
zero_then_zero false true n count e = e
zero_then_zero false false n count e = let w : ⊥ = omega arith in absurd w

module _ (s m out : List ℕ) (z : (serve_answer s m out).number ≡ 0) where
  -- where kd_serve answers 0, the request's number is 0,
  pub served_then_valid : request_number s m ≡ 0
  unfolding serve_answer
  served_then_valid = zero_then_zero (unanswered (request_number s m)) (leb (length (sent_back s m)) (length out)) (request_number s m) (length (sent_back s m)) z

  -- the count is the reply's size, and the output begins with the reply
  pub served_then_reply : ((serve_answer s m out).count ≡ length (reply_to s m)) × (sent s m out ≡ reply_to s m)
  served_then_reply =
      let r = served_reply s m out served_then_valid in
      elim (dec_le (length (reply_to s m)) (length out)) [
        | yes y ↦
            let g = fits_sent 0 (reply_to s m) out y in
            let c : (serve_answer s m out).count ≡ length (reply_to s m) = ap (λ (a : Answer). a.count) (r.0 ∙ g.0) in
            (c, rw (c, r.1 ∙ g.1) (cut_pasted_same out 0 (reply_to s m) (length (reply_to s m)) refl (omega arith)))
        | no x ↦
            let g = ap (λ (a : Answer). a.number) (r.0 ∙ (fits_not 0 (reply_to s m) out (omega arith)).0) in
            let w : ⊥ = omega arith in
            absurd w
      ]

  -- OUR REPLIES READ BACK, as the call leaves them: a hashes message with the request's root and header, of the size that it fixes,
  pub sent_has_header : (is_hashes (sent s m out) ≡ true) × (message_root (sent s m out) ≡ message_root m) × (header_of (sent s m out) ≡ header_of m)
      × (length (sent s m out) ≡ message_size (header_of (sent s m out)))
  sent_has_header = rw served_then_reply.1 (reply_has_header s m served_then_valid)

  -- at hash j of the run the hash that was held at position index + j of the base layer,
  pub sent_run : (j : ℕ) → j < (header_of m).len → Holds s (header_of m).base ((header_of m).index + j) (hash_in (sent s m out) j)
  sent_run j l = rw served_then_reply.1 (run_reads_back s m served_then_valid j l)

  -- and at uncle i the hash that was held beside the path in its layer
  pub sent_uncle : (i : ℕ) → i < uncles_in m → Holds s (top_layer m + i) (sibling (top_index m / 2 ^ i)) (hash_in (sent s m out) ((header_of m).len + i))
  sent_uncle i l = rw served_then_reply.1 (uncle_reads_back s m served_then_valid i l)

  -- THE STORE'S OWN REPLY: a store that only this build has written answers the bytes that it sent 0, with count 0
  pub sent_own : OurStore s → take_answer s (sent s m out) ≡ done 0
  sent_own o = rw served_then_reply.1 (own_reply m o served_then_valid)

  module _ (t : List ℕ) (y : take_number t (sent s m out) ≡ 0) where
    taken_there : take_number t (reply_to s m) ≡ 0
    taken_there = rw served_then_reply.1 at y

    -- WHERE ANOTHER STORE ANSWERS THOSE BYTES 0, each hash of the run is held there with the bytes that were sent,
    pub sent_run_there : (j : ℕ) → j < (header_of m).len → Holds (take_after t (sent s m out)) (header_of m).base ((header_of m).index + j) (hash_in (sent s m out) j)
    sent_run_there j l = rw served_then_reply.1 (run_held_there s t m served_then_valid taken_there j l).1

    -- each uncle too,
    pub sent_uncle_there : (i : ℕ) → i < uncles_in m
        → Holds (take_after t (sent s m out)) (top_layer m + i) (sibling (top_index m / 2 ^ i)) (hash_in (sent s m out) ((header_of m).len + i))
    sent_uncle_there i l = rw served_then_reply.1 (uncle_held_there s t m served_then_valid taken_there i l).1

    -- each parent, above two settled children, with the hash of left then right,
    pub sent_parent_there : (l i : ℕ) (x w : List ℕ) → Settles (sent s m out) l (2 * i) x → Settles (sent s m out) l (2 * i + 1) w
        → Holds (take_after t (sent s m out)) (suc l) i (pair_hash x w)
    sent_parent_there l i x w p q = settles_then_holds t (sent s m out) y (suc l) i (pair_hash x w) (parent l i x w p q)

    -- and the anchor with the hash that the sent hashes chain to
    pub sent_anchor_there : (w : List ℕ) → ChainsTo (sent s m out) w → Holds (take_after t (sent s m out)) (anchor_layer m) (anchor_index m) w
    sent_anchor_there w c = rw served_then_reply.1 (anchor_held_there s t m served_then_valid taken_there w (rw served_then_reply.1 at c))
