-- 02, request 14, sentence by sentence. Its words: crates/words, files Hearing (rounds, a gateway), History, Held, Shown.
-- Assumes nothing.
use Rattle.std.specs.Prelude.{◌≡◌, true, List, ◌↔◌, ◌⊎◌, ℕ, suc, ◌-◌, ◌*◌, ◌^◌, ◌≤◌, length}
use Rattle.std.proofs.Common.{sym, ◌∙◌, arith}
use Rattle.octets.specs.Octets.{Octets}
use Rattle.store.specs.Store.{usable, file_length, facts_root, height_of, open_answer, open_after}
use Rattle.store.specs.StoreLaws.{usable_facts}
use Rattle.saved.specs.Saved.{load_answer, load_after}
use Rattle.words.specs.Held.{Holds}
use Rattle.words.specs.History.{Bytes, Begins, by_loading, OurStore}
use Rattle.words.specs.Hearing.{MessageSet, Among, Round, NothingNew, Gateway, GatewayFrom, counted}
use Rattle.words.specs.Shown.{held_by, Shown}

-- "Two gateways hear the same set of messages in different orders, each offering every message again until a whole round makes nothing
-- newly held. Show that both, opened with the same facts, then hold the same positions with the same bytes, unless the two stores or the
-- messages show two different 64-byte strings with one SHA-256.": it is the two stores that show them, and the piece lengths may differ.
-- "Loads and openings in between are excluded.": `Heard`
pub same_messages_any_order : {M : MessageSet} {n plen plen' : ℕ} {root s t : List ℕ} → Gateway M n plen root s → Gateway M n plen' root t
    → Shown (height_of s) (held_by s) (held_by t) ⊎ ((l i : ℕ) (v : List ℕ) → Holds s l i v ↔ Holds t l i v)
same_messages_any_order = Rattle.knowledge.specs.AnyOrder.same_held

-- The same of gateways that began with an opening, a load or a repair, of one length and root, and held the same (`GatewayFrom`):
pub same_messages_from : {M : MessageSet} {s t u v : List ℕ} → Begins s → Begins t → file_length t ≡ file_length s → facts_root t ≡ facts_root s
    → ((l i : ℕ) (x : List ℕ) → Holds s l i x ↔ Holds t l i x) → GatewayFrom M s u → GatewayFrom M t v
    → Shown (height_of u) (held_by u) (held_by v) ⊎ ((l i : ℕ) (x : List ℕ) → Holds u l i x ↔ Holds v l i x)
same_messages_from = Rattle.knowledge.specs.AnyOrder.same_held_from

-- 02, request 13: so of two gateways that loaded the same saved bytes
pub same_messages_from_a_save : {M : MessageSet} {s t : List ℕ} (a b saved : List ℕ) → Bytes a → Bytes b → Bytes saved → (load_answer a saved).number ≡ 0 → (load_answer b saved).number ≡ 0
    → GatewayFrom M (load_after a saved) s → GatewayFrom M (load_after b saved) t
    → Shown (height_of s) (held_by s) (held_by t) ⊎ ((l i : ℕ) (x : List ℕ) → Holds s l i x ↔ Holds t l i x)
same_messages_from_a_save a b saved ba bb bs y z =
    let p = Rattle.knowledge.specs.LoadedWhen.load_names a saved y in
    let q = Rattle.knowledge.specs.LoadedWhen.load_names b saved z in
    same_messages_from (by_loading a saved ba bs y) (by_loading b saved bb bs z) (q.0 ∙ sym p.0) (q.1 ∙ sym p.1)
    (λ l i x.
    let c = Rattle.knowledge.specs.LoadedWhen.load_holds a saved y l i x in
    let d = Rattle.knowledge.specs.LoadedWhen.load_holds b saved z l i x in
    (λ k. d.1 (c.0 k), λ k. c.1 (d.0 k)))

-- "until a whole round makes nothing newly held": a gateway sees it by the counts, which are then all zero;
pub quiet_by_counts : {M : MessageSet} {s t : List ℕ} → usable s ≡ true → (r : Round M s t) → (counted r.history ≡ 0) ↔ NothingNew s t
quiet_by_counts {s = s} u r = Rattle.knowledge.specs.CountsAdd.quiet_by_counts (usable_facts s u) r.only

-- however the rounds go, one of the first 2·2^h − 1 is such a round;
pub rounds_end : {M : MessageSet} (f : ℕ → List ℕ) → OurStore (f 0) → ((k : ℕ) → Round M (f k) (f (suc k)))
    → (k : ℕ) × (k ≤ 2 * 2 ^ height_of (f 0) - 2) × NothingNew (f k) (f (suc k))
rounds_end f o r = let w = Rattle.knowledge.specs.RoundsEnd.rounds_settle f o r in (w.0, omega (arith, w.1), w.2)

-- and of n messages one of the first n + 1;
pub rounds_few : {M : MessageSet} (f : ℕ → List ℕ) → OurStore (f 0) → ((k : ℕ) → Round M (f k) (f (suc k)))
    → (L : List (List ℕ)) → ((m : List ℕ) → M m → Among m L) → (k : ℕ) × (k ≤ length L) × NothingNew (f k) (f (suc k))
rounds_few = Rattle.knowledge.specs.RoundsEnd.rounds_few

-- the rounds from an opening on, up to such a round, are a gateway's;
pub rounds_heard : {M : MessageSet} (f : ℕ → List ℕ) → ((k : ℕ) → Round M (f k) (f (suc k)))
    → {b : List ℕ} {n plen : ℕ} {root : List ℕ} → Bytes b → Octets 32 root → (open_answer b n plen).number ≡ 0 → f 0 ≡ open_after b n plen root
    → (k : ℕ) → NothingNew (f k) (f (suc k)) → Gateway M n plen root (f (suc k))
rounds_heard = Rattle.knowledge.specs.RoundsEnd.rounds_heard

-- from whatever store they began with
pub rounds_heard_from : {M : MessageSet} (f : ℕ → List ℕ) → ((k : ℕ) → Round M (f k) (f (suc k))) → (k : ℕ) → NothingNew (f k) (f (suc k)) → GatewayFrom M (f 0) (f (suc k))
rounds_heard_from = Rattle.knowledge.specs.RoundsEnd.rounds_heard_from

-- so every list of messages can be heard so, in every store that is opened
pub any_list_heard : (L : List (List ℕ)) → ((m : List ℕ) → Among m L → Bytes m) → (b : List ℕ) (n plen : ℕ) (root : List ℕ) → Bytes b → Octets 32 root
    → (open_answer b n plen).number ≡ 0 → (s : List ℕ) × Gateway (λ m. Among m L) n plen root s
any_list_heard = Rattle.knowledge.specs.RoundsEnd.gateway_exists

-- and in every store of ours, a loaded one too
pub any_list_heard_from : (L : List (List ℕ)) → ((m : List ℕ) → Among m L → Bytes m) → {s : List ℕ} → OurStore s → (t : List ℕ) × GatewayFrom (λ m. Among m L) s t
any_list_heard_from = Rattle.knowledge.specs.RoundsEnd.gateway_exists_from

-- "One round alone doesn't give this, because a message without an anchor is dropped.": OneRound.antt
