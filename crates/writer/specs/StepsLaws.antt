-- The steps of the call: positions by root, then in tree order, the size from both, the answers, the bytes.
-- Assumes nothing.
use Rattle.std.specs.Prelude.{◌≡◌, Bool, true, false, List, ◌++◌, map, ℕ, ◌+◌, ◌-◌, ◌≤◌, ◌<◌, length, take}
use Rattle.std.proofs.Math.Path.{refl, sym}
use Rattle.std.proofs.Common.{ap, ap₂, ◌∙◌, arith, length-append, length-take-le, ne_eqb, lt-ltb, le-ltb}
use Rattle.std.proofs.lemmas.List.{length-map}
use Rattle.octets.specs.Octets.{pasted}
use Rattle.numbers.specs.Numbers.{wrong_size, torrent_too_large, no_room, refused, done}
use Rattle.sorting.specs.SortedBy.{sorted_by}
use Rattle.sorting.specs.PermutedLaws.{map_permuted}
use Rattle.sorting.specs.SortedByLaws.{sorted_permuted}
use Rattle.writer_meaning.specs.Content.{Item, item_before}
use Rattle.writer_meaning.specs.Number.{meet, content_number}
use Rattle.writer_meaning.proofs.GoodLaws.{all_passed, good}
use Rattle.writer_lists.specs.Lists.{record_count, item_at, list_form, content_of}
use Rattle.writer_order.specs.Order.{root_before, path_lower, root_lower, AllInForm, positions, InOrder, most_files}
use Rattle.writer_order.specs.OrderLaws.{content_there, all_placed, positions_length}
use Rattle.writer_order.specs.InOrderLaws.{all_permuted, tree_in_order, meet_told, roots_in_order}
use Rattle.writer_order.specs.Neighbours.{neighbours, leads}
use Rattle.writer_output.specs.Put.{Put}
use Rattle.writer_output.specs.PutLaws.{put_append}
use Rattle.writer_output.specs.Whole.{info_bytes, rest_bytes}
use Rattle.writer_output.specs.WholeLaws.{rest_any_order, size_there, torrent_there, too_many}
use Rattle.writer.specs.Write.{torrent_bytes, write_number, write_answer, write_after}
use Rattle.writer.specs.Steps.{Prepared, ForRest}

-- ---- positions

module _ (list text : List ℕ) (h : list_form list text ≡ true) where
  -- placed one by one
  pub places : (a : List ℕ) (n : ℕ) → n ≡ record_count list → a ≡ positions n → AllInForm list text a
  places a n e p = rw (p, e) (all_placed list text h)

  -- then by root
  pub roots_right : (a b : List ℕ) (n : ℕ) → n ≡ record_count list → a ≡ positions n → b ≡ sorted_by (root_lower list text) a
      → InOrder root_before list text b
  roots_right a b n e p s =
      rw (s, p, e) (roots_in_order list text (positions (record_count list)) (all_placed list text h) (all_permuted list text))

  -- then by path
  pub tree_right_lem : (b c : List ℕ) → InOrder root_before list text b → c ≡ sorted_by (path_lower list text) b
      → InOrder item_before list text c
  tree_right_lem b c o s = rw s (tree_in_order list text b o.placed o.permuted)

  -- and by root again, where there are layers
  pub rest_sorted : (c d : List ℕ) → InOrder item_before list text c → d ≡ sorted_by (root_lower list text) c → ForRest list text d
  rest_sorted c d o s =
      let i : InOrder root_before list text d = rw s (roots_in_order list text c o.placed o.permuted) in
      record { placed = i.placed; roots = d; by_root = i; as_roots = refl }

  pub rest_plain : (c : List ℕ) (n : ℕ) → InOrder item_before list text c → n ≡ length (rest_bytes (map (item_at list text) c)) → n ≡ 2
      → ForRest list text c
  rest_plain c n o e z =
      let i = roots_in_order list text c o.placed o.permuted in
      record {
        placed = o.placed;
        roots = sorted_by (root_lower list text) c;
        by_root = i;
        as_roots =
            rest_any_order (map (item_at list text) c) (map (item_at list text) (sorted_by (root_lower list text) c))
            (map_permuted (item_at list text) c (sorted_by (root_lower list text) c) (sorted_permuted (root_lower list text) c))
            (sym e ∙ z);
      }

  -- ---- the size and the bytes, of positions in the two orders

  module _ (plen : ℕ) (name b c : List ℕ) (o : InOrder item_before list text b) where
    -- also of a list that is refused
    pub whole_size : InOrder root_before list text c → (i s : ℕ) → i ≡ length (info_bytes plen name (map (item_at list text) b))
        → s ≡ length (rest_bytes (map (item_at list text) c)) → i + s ≡ length (torrent_bytes list text plen name)
    whole_size r i s x y =
        ap₂ (λ (m n : ℕ). m + n) x y
        ∙ sym (size_there plen name (content_of list text) (map (item_at list text) b) (map (item_at list text) c) o.permuted o.in_order
        r.permuted r.in_order)

    parts : ForRest list text c → content_number plen name (content_of list text) ≡ 0
        → torrent_bytes list text plen name ≡ info_bytes plen name (map (item_at list text) b) ++ rest_bytes (map (item_at list text) c)
    parts f z =
        let g = good plen name (content_of list text) (all_passed plen name (content_of list text) z) in
        torrent_there plen name (content_of list text) (map (item_at list text) b) (map (item_at list text) f.roots) o.permuted
        o.in_order f.by_root.permuted f.by_root.in_order g.fine.paths_apart
        ∙ ap (λ (l : List ℕ). info_bytes plen name (map (item_at list text) b) ++ l) (sym f.as_roots)

    -- the second part ends within the output
    pub rest_room : ForRest list text c → content_number plen name (content_of list text) ≡ 0 → (i n : ℕ)
        → i ≡ 0 + length (info_bytes plen name (map (item_at list text) b)) → length (torrent_bytes list text plen name) ≤ n
        → i + length (rest_bytes (map (item_at list text) c)) ≤ n
    rest_room f z i n e l =
        let s = ap (λ (x : List ℕ). length x) (parts f z) in
        omega (arith, length-append (info_bytes plen name (map (item_at list text) b)) (rest_bytes (map (item_at list text) c)))

    -- the bytes, where 0 is answered
    pub whole_bytes : ForRest list text c → content_number plen name (content_of list text) ≡ 0 → (out t u : List ℕ) (i k : ℕ)
        → Put out 0 (info_bytes plen name (map (item_at list text) b)) t i → Put t i (rest_bytes (map (item_at list text) c)) u k
        → length t ≡ length out → length (torrent_bytes list text plen name) ≤ length out
        → u ≡ pasted out 0 (torrent_bytes list text plen name)
    whole_bytes f z out t u i k v w e l =
        let p = put_append out t u 0 i k (info_bytes plen name (map (item_at list text) b)) (rest_bytes (map (item_at list text) c)) v w e in
        let s = ap (λ (x : List ℕ). length x) (parts f z) in
        let m = p.behind in
        p.there (omega arith) ∙ ap (λ (x : List ℕ). pasted out 0 x) (sym (parts f z))

  -- and so does the first
  pub info_room : (plen : ℕ) (name b : List ℕ) (n : ℕ) → InOrder item_before list text b → length (torrent_bytes list text plen name) ≤ n
      → 0 + length (info_bytes plen name (map (item_at list text) b)) ≤ n
  info_room plen name b n o l =
      let c = sorted_by (root_lower list text) b in
      let s = whole_size plen name b c o (roots_in_order list text b o.placed o.permuted)
      (length (info_bytes plen name (map (item_at list text) b))) (length (rest_bytes (map (item_at list text) c))) refl refl in
      omega arith

  pub met : (b : List ℕ) (t : Bool) → InOrder item_before list text b → t ≡ neighbours leads (map (item_at list text) b)
      → t ≡ meet (content_of list text)
  met b t o u = u ∙ meet_told list text b o

-- work space for as many positions as there are records
pub part_end : (n : ℕ) (s : List ℕ) → n ≤ most_files → length s ≡ most_files → n ≤ length s
part_end n s h e = omega arith

pub part_ready : (list text at room : List ℕ) → list_form list text ≡ true → record_count list ≤ most_files → length at ≡ most_files
    → length room ≡ most_files → Prepared list text (take (record_count list - 0) at) (take (record_count list - 0) room)
part_ready list text at room h f a b =
    record {
      form = h;
      few = f;
      at_size = length-take-le (record_count list - 0) at (omega arith) ∙ omega arith;
      room_size = length-take-le (record_count list - 0) room (omega arith) ∙ omega arith;
    }

-- ---- answers

-- a list that is not in its form
pub answer_form : (list text : List ℕ) (plen : ℕ) (name out : List ℕ) → list_form list text ≡ false
    → (refused wrong_size ≡ write_answer list text plen name out) × (out ≡ write_after list text plen name out)
unfolding write_answer write_after write_number
answer_form list text plen name out h = (rw h refl, rw h refl)

module _ (list text : List ℕ) (plen : ℕ) (name out : List ℕ) (h : list_form list text ≡ true) where
  pub answer_number : (n : ℕ) → n ≡ content_number plen name (content_of list text) → (n ≡ 0 → ⊥)
      → (refused n ≡ write_answer list text plen name out) × (out ≡ write_after list text plen name out)
  unfolding write_answer write_after write_number
  answer_number n e f = (rw (h, sym e, ne_eqb n 0 f, ne_eqb n 0 f) refl, rw (h, sym e, ne_eqb n 0 f, ne_eqb n 0 f) refl)

  module _ (e : content_number plen name (content_of list text) ≡ 0) where
    pub answer_room : length out < length (torrent_bytes list text plen name)
        → (refused no_room ≡ write_answer list text plen name out) × (out ≡ write_after list text plen name out)
    unfolding write_answer write_after write_number
    answer_room l = (
      rw (h, e, lt-ltb (length out) (length (torrent_bytes list text plen name)) l) refl,
      rw
          (h, e, lt-ltb (length out) (length (torrent_bytes list text plen name)) l) refl,
    )

    pub answer_done : (n : ℕ) (u : List ℕ) → n ≡ length (torrent_bytes list text plen name)
        → length (torrent_bytes list text plen name) ≤ length out → u ≡ pasted out 0 (torrent_bytes list text plen name)
        → (done n ≡ write_answer list text plen name out) × (u ≡ write_after list text plen name out)
    unfolding write_answer write_after write_number
    answer_done n u s l p = (
      rw (h, e, le-ltb (length out) (length (torrent_bytes list text plen name)) l) (ap done s),
      rw
          (h, e, le-ltb (length out) (length (torrent_bytes list text plen name)) l) p,
    )

-- more records than files go into a torrent
pub content_length : (list text : List ℕ) → length (content_of list text) ≡ record_count list
content_length list text =
    ap (λ (l : List Item). length l) (sym (content_there list text)) ∙ length-map (positions (record_count list)) (item_at list text)
    ∙ positions_length (record_count list)

pub answer_many : (list text : List ℕ) (plen : ℕ) (name out : List ℕ) → list_form list text ≡ true → most_files < record_count list
    → (refused torrent_too_large ≡ write_answer list text plen name out) × (out ≡ write_after list text plen name out)
answer_many list text plen name out h l = answer_number list text plen name out h torrent_too_large (sym large) (λ z. omega arith)
  where
    large : content_number plen name (content_of list text) ≡ torrent_too_large
    large = unfold content_number in rw (too_many plen name (content_of list text) (omega (arith, content_length list text))) refl
