-- 02, request 11: a request that one store names is 3 to no store for the same file; one that holds the layer and all above it serves it, and the
-- reply is taken.
-- Assumes nothing.
use Rattle.std.specs.Prelude.{◌≡◌, refl, true, List, ◌⊎◌, ℕ, ◌+◌, ◌-◌, ◌*◌, ◌/◌, ◌^◌, ◌≤◌, ◌<◌, length, eqb}
use Rattle.std.proofs.Math.Path.{ap}
use Rattle.std.proofs.Common.{sym, ◌∙◌, inl, inr, arith, div-lt_iff_lt-mul, pow-add, pow_pos, eqb-true}
use Rattle.std.proofs.Math.Bool.{and-eq-true_iff}
use Rattle.tree.specs.Geometry.{height, block_count}
use Rattle.tree.proofs.GeometryLaws.{layer_doubles}
use Rattle.numbers.specs.Numbers.{rule_broken}
use Rattle.store.specs.Store.{usable, file_length, facts_root, blocks_of, height_of}
use Rattle.settling.specs.Path.{sibling}
use Rattle.settling.specs.PathLaws.{sibling_below}
use Rattle.header.specs.Header.{request_id, header_size, message_id, header_of, is_request, message_size, Kept}
use Rattle.header.specs.HeaderLaws.{log_some, top_inside}
use Rattle.messages.specs.Take.{take_answer, reject_answer}
use Rattle.serve.specs.Serve.{serve_answer}
use Rattle.asking.specs.Asking.{next_answer}
use Rattle.words.specs.Messages.{Form, AllGiven, top_layer, top_index, sent}
use Rattle.words.specs.History.{OurStore}
use Rattle.words.specs.Shown.{held_by, Shown}
use Rattle.knowledge.specs.FormedWhen.{three_exactly_when}
use Rattle.knowledge.specs.ServedWhen.{reject_3, request_3, served_0, serve_rejects}
use Rattle.knowledge.specs.ConflictShows.{other_store_reply_taken}
use Rattle.words.specs.Asking.{HeaderOf, HoldsFrom}
use Rattle.knowledge.specs.NextRequest.{keeps_rules, anchor_is_held, request_run}
use Rattle.knowledge.specs.RequestBytes.{request_bytes_lem}

form_of : (m : List ℕ) → is_request m ≡ true → Form request_id m
unfolding is_request
form_of m e =
    let w = (and-eq-true_iff (eqb (length m) header_size) (eqb (message_id m) request_id)).0 e in
    record { size = eqb-true (length m) header_size w.0; first = eqb-true (message_id m) request_id w.1 }

-- IT IS NEVER 3: no store of the file that the request is about, whoever wrote it, says of a message with its header that a rule is broken
module _ (s : List ℕ) (l : ℕ) (e : (next_answer s l).asks ≡ 1) (m : List ℕ) (H : HeaderOf (next_answer s l) m) (t : List ℕ) (files : file_length t ≡ file_length s) where
  rules_there : Kept (header_of m) (height_of t)
  unfolding blocks_of height_of
  rules_there = rw files (keeps_rules s l e m H)

  pub taken_never_3 : (take_answer t m).number ≡ rule_broken → ⊥
  unfolding take_answer
  taken_never_3 z = ((three_exactly_when t m).0 z).1 rules_there

  pub reject_never_3 : (reject_answer t m).number ≡ rule_broken → ⊥
  reject_never_3 z = ((reject_3 t m).0 z).3 rules_there

  pub served_never_3 : (out : List ℕ) → (serve_answer t m out).number ≡ rule_broken → ⊥
  served_never_3 out z = ((request_3 t m).0 ((serve_rejects t m out rule_broken (inr (inl refl))).0 z).0).3 rules_there

-- a request that keeps the rules asks for positions of its layer and of those above it
given_all : (s m : List ℕ) → Kept (header_of m) (height_of s) → HoldsFrom s (header_of m).base → AllGiven s m
given_all s m K H =
    record {
      run = λ j a. H (header_of m).base ((header_of m).index + j) (omega arith) (record { low = omega (arith, K.within); inside = omega (arith, K.inside) });
      uncles =
          λ j a.
          let one = log_some (header_of m).len K.two in
          let t = top_inside (header_of m) (height_of s) K in
          let lt : top_layer m + j < height_of s = omega (arith, K.above, K.within) in
          let x : height_of s - (top_layer m + j) + j ≡ height_of s - top_layer m = omega arith in
          let p : 2 ^ (height_of s - (top_layer m + j)) * 2 ^ j ≡ 2 ^ (height_of s - top_layer m) = sym (pow-add 2 (height_of s - (top_layer m + j)) j) ∙ ap (λ (y : ℕ). 2 ^ y) x in
          let b : top_index m / 2 ^ j < 2 ^ (height_of s - (top_layer m + j)) = (div-lt_iff_lt-mul (pow_pos j)).1 (omega arith) in
          let d = layer_doubles (height_of s) (top_layer m + j) lt in
          H (top_layer m + j) (sibling (top_index m / 2 ^ j)) (omega arith)
          (record { low = omega arith; inside = sibling_below (top_index m / 2 ^ j) (2 ^ (height_of s - (top_layer m + j))) b (omega arith) });
    }

module _ (t : List ℕ) (l : ℕ) (e : (next_answer t l).asks ≡ 1) (s : List ℕ) (us : usable s ≡ true) (files : file_length s ≡ file_length t) (roots : facts_root s ≡ facts_root t) where
  m : List ℕ
  m = (next_answer t l).message

  same_blocks : blocks_of s ≡ blocks_of t
  unfolding blocks_of
  same_blocks = ap block_count files

  same_height : height_of s ≡ height_of t
  unfolding height_of
  same_height = ap height same_blocks

  kept : Kept (header_of (next_answer t l).message) (height_of s)
  kept = rw same_height (keeps_rules t l e (next_answer t l).message (request_bytes_lem t l e).2)

  base_is : (header_of (next_answer t l).message).base ≡ l
  base_is = (request_bytes_lem t l e).2.base ∙ (request_run t l e).1

  -- IT IS SERVED: with 0, where the output has room for the reply
  pub request_served : HoldsFrom s l → (out : List ℕ) → message_size (header_of (next_answer t l).message) ≤ length out
      → (serve_answer s (next_answer t l).message out).number ≡ 0
  request_served H out room =
      let B = request_bytes_lem t l e in
      (served_0 s (next_answer t l).message out).1 (
        record { store = us; form = form_of (next_answer t l).message B.0; root = roots ∙ sym B.1; rules = kept },
        given_all s (next_answer t l).message kept (rw base_is H),
        room,
      )

  -- and the reply is taken, unless the two stores show two different strings with one SHA-256
  pub reply_taken : OurStore s → OurStore t → HoldsFrom s l → (out : List ℕ) → message_size (header_of (next_answer t l).message) ≤ length out
      → Shown (height_of t) (held_by t) (held_by s) ⊎ ((take_answer t (sent s (next_answer t l).message out)).number ≡ 0)
  unfolding take_answer
  reply_taken os ot H out room =
      other_store_reply_taken os ot files roots (next_answer t l).message out (request_served H out room)
      (anchor_is_held t l e (next_answer t l).message (request_bytes_lem t l e).2).1.given
