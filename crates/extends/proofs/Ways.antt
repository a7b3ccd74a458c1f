-- What the code's returns give, over plain variables: one law for each.
-- Assumes nothing.
use Rattle.std.specs.Prelude.{◌≡◌, Bool, true, false, cond, ◌&&◌, List, [], ◌++◌, ℕ, ◌+◌, ◌-◌, ◌*◌, ◌/◌, ◌%◌, ◌^◌, ◌≤◌, ◌<◌, length, take, drop, eqb}
use Rattle.std.proofs.Common.{ap, ap₂, sym, ◌∙◌, arith, length-take, length-drop, take-append-drop, take_all, eq-eqb, ne_eqb, lt-ltb, le-leb}
use Rattle.std.proofs.lemmas.Bool.{lt-leb}
use Rattle.octets.specs.Octets.{cut, same}
use Rattle.numbers.specs.Numbers.{rule_broken, wrong_size, no_anchor, differs, unusable, done, refused}
use Rattle.numbers.specs.declared.Answer.{Answer}
use Rattle.limits.specs.Limits.{longest_file, tallest_tree}
use Rattle.sha256.specs.Sha256.{sha256, pair_hash}
use Rattle.sha256.specs.declared.Hashed.{Hashed}
use Rattle.running.specs.declared.Hashing.{Hashing}
use Rattle.running.specs.Bursts.{state_of, absorbed, hash_of}
use Rattle.running.specs.BurstsLaws.{absorbed_more, absorbed_total, hash_of_state, state_tail, state_total}
use Rattle.tree.specs.Geometry.{ceil_div, block_count, height, covering, block_size}
use Rattle.tree.proofs.GeometryLaws.{covering_most, covering_some, block_count_some}
use Rattle.tree.specs.Values.{pad_value}
use Rattle.store.specs.Store.{usable, file_length, held_answer}
use Rattle.store.specs.StoreLaws.{usable_facts, height_most}
use Rattle.extends.specs.Extends.{whole_blocks, rest_size, known, both, earlier, earlier_root, over_size, last_hash, leaf_held, block_held, extends_number, extends_answer}
use Rattle.extends.specs.Asks.{Mixed, Inside, reaches}
use Rattle.extends.proofs.ExtendsLaws.{earlier_whole, earlier_last, earlier_pair, both_known, past_left, past_right, pad_up, root_unused}

pub pair_by : (x y : Hashed) (h : List ℕ) → x.number ≡ 0 → y.number ≡ 0 → h ≡ pair_hash x.hash y.hash → record { number = 0; hash = h } ≡ both x y
pair_by x y h a b e = ap (λ (v : List ℕ). known v) e ∙ sym (both_known x y a b)

-- what a position's two children give
module _ (s : List ℕ) (n : ℕ) (last : List ℕ) (l i : ℕ) (M : Mixed n l i) (z : l ≡ 0 → ⊥) where
  up : (x y r : Hashed) (p q : List ℕ) → x ≡ earlier s n last (l - 1) (2 * i) → y ≡ earlier s n last (l - 1) (2 * i + 1) → p ≡ pad_value (l - 1)
      → (r ≡ both x y) × (q ≡ pair_hash p p) → (r ≡ earlier s n last l i) × (q ≡ pad_value l)
  up x y r p q ex ey ep e = (
    e.0 ∙ ap₂ both ex ey ∙ earlier_pair s n last l i M.behind M.some z,
    e.1 ∙ ap (λ (v : List ℕ). pair_hash v v) ep ∙ pad_up n l i M z,
  )

  -- the left one is worked out,
  pub left_by : (x r : Hashed) (p q : List ℕ) → whole_blocks n / 2 ^ (l - 1) ≤ 2 * i → (x ≡ earlier s n last (l - 1) (2 * i)) × (p ≡ pad_value (l - 1))
      → (r ≡ both x (record { number = 0; hash = p })) × (q ≡ pair_hash p p) → (r ≡ earlier s n last l i) × (q ≡ pad_value l)
  left_by x r p q h e g = up x (known p) r p q e.0 (ap (λ (v : List ℕ). known v) e.1 ∙ past_left n l i M z s last h) e.1 g

  module _ (x : Hashed) (h : 2 * i < whole_blocks n / 2 ^ (l - 1)) (ex : x ≡ held_answer s (l - 1) (2 * i)) where
    left : x ≡ earlier s n last (l - 1) (2 * i)
    left = ex ∙ earlier_whole s n last (l - 1) (2 * i) h

    -- or none,
    pub none_by : (b c : ℕ) → b ≡ block_count n → c ≡ covering b (l - 1) → c ≤ 2 * i + 1 → (r : Hashed) (p q : List ℕ) → p ≡ pad_value (l - 1)
        → (r ≡ both x (record { number = 0; hash = p })) × (q ≡ pair_hash p p) → (r ≡ earlier s n last l i) × (q ≡ pad_value l)
    none_by b c eb ec g r p q e k =
        up x (known p) r p q left (ap (λ (v : List ℕ). known v) e ∙ past_right n l i M z s last (omega (arith, ec ∙ ap (λ (y : ℕ). covering y (l - 1)) eb))) e k

    -- or the right one
    pub right_by : (y r : Hashed) (p q : List ℕ) → (y ≡ earlier s n last (l - 1) (2 * i + 1)) × (p ≡ pad_value (l - 1))
        → (r ≡ both x y) × (q ≡ pair_hash p p) → (r ≡ earlier s n last l i) × (q ≡ pad_value l)
    right_by y r p q e k = up x y r p q left e.0 e.1 k

-- the shorter block
pub last_by : (s : List ℕ) (n : ℕ) (last : List ℕ) (l i : ℕ) → Mixed n l i → l ≡ 0 → (p : List ℕ) → p ≡ pad_value 0
    → (record { number = 0; hash = last } ≡ earlier s n last l i) × (p ≡ pad_value l)
last_by s n last l i M z p f = (earlier_last s n last l i M.behind M.some z, f ∙ ap pad_value (sym z))

-- a position that the tree has is small
pub small : (n l i : ℕ) → n ≤ longest_file → Mixed n l i → i < 2 ^ 40
unfolding block_count ceil_div
small n l i m M = let g = M.some in omega (arith, covering_most (block_count n) l)

-- ---- the root

module _ (s : List ℕ) (n : ℕ) (last : List ℕ) (b h : ℕ) (eb : b ≡ block_count n) (eh : h ≡ height b) where
  high : h ≡ height (block_count n)
  high = eh ∙ ap height eb

  pub root_held : (r : Hashed) → 0 < whole_blocks n / 2 ^ h → r ≡ held_answer s h 0 → r ≡ earlier_root s n last
  unfolding earlier_root
  root_held r g e = e ∙ earlier_whole s n last h 0 g ∙ ap (λ (x : ℕ). earlier s n last x 0) high

  pub root_asks : 1 ≤ n → n ≤ longest_file → whole_blocks n / 2 ^ h ≤ 0 → (h ≤ tallest_tree) × (n ≤ longest_file) × Mixed n h 0
  root_asks a m g =
      (omega (arith, height_most n m, high), m, record { behind = g; some = let c = covering_some (block_count n) h (block_count_some n a) in omega arith })

  pub root_edge : (r : Hashed) → r ≡ earlier s n last h 0 → r ≡ earlier_root s n last
  unfolding earlier_root
  root_edge r e = e ∙ ap (λ (x : ℕ). earlier s n last x 0) high

-- ---- the block over the earlier end

pub over_none : (N n : ℕ) → n % 16384 ≡ 0 → 0 ≡ over_size N n
over_none N n r = sym (rw (eq-eqb (rest_size n) 0 r))

pub over_some : (N n m : ℕ) → (n % 16384 ≡ 0 → ⊥) → m ≡ block_size N (n / 16384) → m ≡ over_size N n
over_some N n m r e = e ∙ sym (rw (ne_eqb (rest_size n) 0 r))

-- a state that was begun, and one that took the first bytes
pub begun_tail : (b : Hashing) → b ≡ state_of [] → b.tail_size ≡ b.total % 64
begun_tail b e =
    let t : b.total ≡ 0 = ap (λ (x : Hashing). x.total) e ∙ state_total [] in
    let k : b.tail_size ≡ 0 = ap (λ (x : Hashing). x.tail_size) e ∙ state_tail [] in
    omega arith

pub begun_total : (b : Hashing) → b ≡ state_of [] → b.total ≡ 0
begun_total b e = ap (λ (x : Hashing). x.total) e ∙ state_total []

pub first_total : (b h : Hashing) (block : List ℕ) (r : ℕ) → b ≡ state_of [] → h ≡ absorbed b (take (r - 0) block) → h.total ≤ r
first_total b h block r eb eh =
    let t : h.total ≡ b.total + length (take (r - 0) block) = ap (λ (x : Hashing). x.total) eh ∙ absorbed_total b (take (r - 0) block) in
    omega (arith, begun_total b eb, length-take (r - 0) block)

-- the first bytes, then all of them
module _ (block : List ℕ) (r : ℕ) (b h : Hashing) (eb : b ≡ state_of []) (eh : h ≡ absorbed b (take (r - 0) block)) where
  first_is : h ≡ state_of (take r block)
  first_is =
      let z : r - 0 ≡ r = omega arith in
      eh ∙ ap₂ (λ (x : Hashing) (k : ℕ). absorbed x (take k block)) eb z ∙ absorbed_more [] (take r block)

  pub first_hash : (v : List ℕ) → v ≡ hash_of h → v ≡ sha256 (cut block 0 r)
  unfolding cut
  first_hash v ev = ev ∙ ap hash_of first_is ∙ hash_of_state (take r block)

  pub whole_hash : r ≤ length block → (g : Hashing) (v : List ℕ) → g ≡ absorbed h (take (length block - r) (drop r block)) → v ≡ hash_of g → v ≡ sha256 block
  whole_hash m g v eg ev =
      let rest : take (length block - r) (drop r block) ≡ drop r block = take_all (length block - r) (drop r block) (omega (arith, length-drop r block)) in
      ev
      ∙ ap hash_of (eg ∙ ap₂ absorbed first_is rest ∙ absorbed_more (take r block) (drop r block))
      ∙ hash_of_state (take r block ++ drop r block)
      ∙ ap sha256 (take-append-drop r block)

-- ---- the numbers

module _ (x : Hashed) (right : Bool) (root : List ℕ) where
  pub reaches_6 : (x.number ≡ 0 → ⊥) → no_anchor ≡ reaches x right root
  unfolding reaches
  reaches_6 a = sym (simp (ne_eqb x.number 0 a))

  module _ (a : x.number ≡ 0) where
    pub reaches_not : right ≡ false → differs ≡ reaches x right root
    unfolding reaches
    reaches_not b = sym (rw (eq-eqb x.number 0 a, b))

    pub reaches_0 : right ≡ true → (t : Bool) → t ≡ same x.hash root → t ≡ true → 0 ≡ reaches x right root
    unfolding reaches
    reaches_0 b t e c = sym (rw (eq-eqb x.number 0 a, b, ← e, c))

    pub reaches_7 : right ≡ true → (t : Bool) → t ≡ same x.hash root → t ≡ false → differs ≡ reaches x right root
    unfolding reaches
    reaches_7 b t e c = sym (rw (eq-eqb x.number 0 a, b, ← e, c))

-- an earlier file that ends inside a block
module _ (s : List ℕ) (n : ℕ) (root block : List ℕ) (I : Inside s n block) where
  pub inside_few : (1 ≤ n) × (n ≤ longest_file)
  inside_few = let f = usable_facts s I.store in (let r : n % 16384 ≡ 0 → ⊥ = I.rest in omega arith, omega (arith, f.most, I.most))

  pub inside_first : n % 16384 ≤ length block
  unfolding block_size
  inside_first = let z : length block ≡ block_size (file_length s) (whole_blocks n) = rw (ne_eqb (rest_size n) 0 I.rest) at I.size in omega (arith, z, I.most)

  inside_is : extends_number s n root block
      ≡ cond (leaf_held s n && eqb (earlier_root s n (last_hash n block)).number 0) (cond (block_held s n block && same (earlier_root s n (last_hash n block)).hash root) 0 differs) no_anchor
  unfolding extends_number
  inside_is = rw (I.store, lt-ltb 0 n inside_few.0, le-leb n (file_length s) I.most, eq-eqb (length block) (over_size (file_length s) n) I.size)

  inside_lacks : ((held_answer s 0 (whole_blocks n)).number ≡ 0 → ⊥)
      → cond (leaf_held s n && eqb (earlier_root s n (last_hash n block)).number 0) (cond (block_held s n block && same (earlier_root s n (last_hash n block)).hash root) 0 differs) no_anchor ≡ no_anchor
  unfolding leaf_held
  inside_lacks a = rw (ne_eqb (rest_size n) 0 I.rest, ne_eqb (held_answer s 0 (whole_blocks n)).number 0 a)

  inside_has : (held_answer s 0 (whole_blocks n)).number ≡ 0
      → cond (leaf_held s n && eqb (earlier_root s n (last_hash n block)).number 0) (cond (block_held s n block && same (earlier_root s n (last_hash n block)).hash root) 0 differs) no_anchor
      ≡ reaches (earlier_root s n (last_hash n block)) (same (held_answer s 0 (whole_blocks n)).hash (sha256 block)) root
  unfolding leaf_held block_held reaches
  inside_has a = rw (ne_eqb (rest_size n) 0 I.rest, eq-eqb (held_answer s 0 (whole_blocks n)).number 0 a)

  module _ (leaf : Hashed) (el : leaf ≡ held_answer s 0 (n / 16384)) where
    pub inside_6 : (leaf.number ≡ 0 → ⊥) → no_anchor ≡ extends_number s n root block
    inside_6 a = sym (inside_is ∙ inside_lacks (λ z. a (ap (λ (y : Hashed). y.number) el ∙ z)))

    pub inside_rest : leaf.number ≡ 0 → (last whole : List ℕ) (t : Bool) (x : Hashed) (r : ℕ) → (last ≡ sha256 (cut block 0 (n % 16384))) × (whole ≡ sha256 block)
        → t ≡ same leaf.hash whole → x ≡ earlier_root s n last → r ≡ reaches x t root → r ≡ extends_number s n root block
    inside_rest a last whole t x r e et ex er =
        er
        ∙ ap₂ (λ (y : Hashed) (u : Bool). reaches y u root) (ex ∙ ap (earlier_root s n) e.0) (et ∙ ap₂ same (ap (λ (y : Hashed). y.hash) el) e.1)
        ∙ sym (inside_is ∙ inside_has (sym (ap (λ (y : Hashed). y.number) el) ∙ a))

module _ (s : List ℕ) (n : ℕ) (root block : List ℕ) (t : Bool) (et : t ≡ usable s) where
  pub number_9 : t ≡ false → unusable ≡ extends_number s n root block
  unfolding extends_number
  number_9 a = sym (rw (← et, a))

  module _ (a : t ≡ true) where
    pub number_none : n ≡ 0 → rule_broken ≡ extends_number s n root block
    unfolding extends_number
    number_none z = sym (rw (← et, a, z))

    module _ (z : n ≡ 0 → ⊥) (m : ℕ) (em : m ≡ file_length s) where
      pub number_3 : m < n → rule_broken ≡ extends_number s n root block
      unfolding extends_number
      number_3 g = sym (rw (← et, a, ← em, lt-ltb 0 n (omega arith), lt-leb n m g))

      module _ (g : n ≤ m) (k : ℕ) (ek : k ≡ over_size m n) where
        pub number_4 : (length block ≡ k → ⊥) → wrong_size ≡ extends_number s n root block
        unfolding extends_number
        number_4 e = sym (rw (← et, a, ← em, lt-ltb 0 n (omega arith), le-leb n m g, ← ek, ne_eqb (length block) k e))

        module _ (e : length block ≡ k) where
          pub is_inside : (n % 16384 ≡ 0 → ⊥) → Inside s n block
          is_inside r = record { store = sym et ∙ a; rest = r; most = omega (arith, em); size = e ∙ ek ∙ ap (λ (x : ℕ). over_size x n) em }

          -- what the walk asks for
          pub few : (1 ≤ n) × (n ≤ longest_file)
          few = let f = usable_facts s (sym et ∙ a) in (omega arith, omega (arith, f.most))

          whole_is : n % 16384 ≡ 0 → extends_number s n root block ≡ reaches (earlier_root s n (last_hash n block)) true root
          unfolding extends_number leaf_held block_held reaches
          whole_is q = rw (← et, a, ← em, lt-ltb 0 n (omega arith), le-leb n m g, ← ek, eq-eqb (length block) k e, eq-eqb (rest_size n) 0 q)

          pub number_rest : n % 16384 ≡ 0 → (none : List ℕ) (x : Hashed) (r : ℕ) → x ≡ earlier_root s n none → r ≡ reaches x true root → r ≡ extends_number s n root block
          number_rest q none x r ex er = er ∙ ap (λ (y : Hashed). reaches y true root) (ex ∙ root_unused s n none (last_hash n block) q) ∙ sym (whole_is q)

module _ (s : List ℕ) (n : ℕ) (root block : List ℕ) (number : ℕ) (e : number ≡ extends_number s n root block) where
  pub answer_0 : number ≡ 0 → (r : Answer) → r ≡ done n → r ≡ extends_answer s n root block
  unfolding extends_answer
  answer_0 z r q = rw (← e, eq-eqb number 0 z) q

  pub answer_n : (number ≡ 0 → ⊥) → (r : Answer) → r ≡ refused number → r ≡ extends_answer s n root block
  unfolding extends_answer
  answer_n z r q = rw (← e, ne_eqb number 0 z) q

pub count_same : (n d k b c : ℕ) → b ≡ block_count n → c ≡ covering b d → k < c → k < covering (block_count n) d
count_same n d k b c eb ec g = omega (arith, ec ∙ ap (λ (y : ℕ). covering y d) eb)

pub root_low : (n b h : ℕ) → n ≤ longest_file → b ≡ block_count n → h ≡ height b → h ≤ tallest_tree
root_low n b h m eb eh = omega (arith, height_most n m, eh ∙ ap height eb)
