-- 02, request 12: what is promised of `kd_torrent_hybrid`, `kd_torrent_v1_piece` and `kd_torrent_v1_pieces`, by the value es that a torrent
-- encodes which gets 0: hybrid is what has `pieces`; the v1 info hash is SHA-1 of the bytes whose SHA-256 the info hash is; the hash of a piece
-- is that of the file's own piece and then so many zeros, in the bytes that the v1 half hashes; and a file's hashes stand in a row.
-- Assumes nothing.
use Rattle.bencode.specs.Scalar.{part}
use Rattle.std.specs.Prelude.{◌≡◌, ◌↔◌, true, List, ◌++◌, ℕ, zero, suc, ◌+◌, ◌-◌, ◌*◌, ◌/◌, ◌≤◌, ◌<◌, length, replicate, Option, Some, None}
use Rattle.std.proofs.Math.Path.{refl, ap}
use Rattle.std.proofs.Common.{sym, ◌∙◌, arith, add-mul, eq-eqb, ne_eqb, lt-ltb}
use Rattle.std.proofs.lemmas.Bool.{false≢true}
use Rattle.hybrid.specs.EntryLaws.{is_there_lem}
use Rattle.limits.specs.Limits.{max_levels}
use Rattle.octets.specs.Octets.{cut}
use Rattle.octets.specs.OctetsLaws.{cut_cut}
use Rattle.sha256.specs.Sha256.{sha256}
use Rattle.sha_1.specs.Sha1.{sha1}
use Rattle.tree.specs.Geometry.{piece_count}
use Rattle.tree.proofs.GeometryLaws.{ceil_below}
use Rattle.bencode.specs.Grammar.{dictionary, Entries, encode, Valid}
use Rattle.bencode.specs.Parts.{Lookup, absent, present, lookup}
use Rattle.bencode.specs.declared.part.Part.{Part}
use Rattle.meaning.specs.Nth.{Nth}
use Rattle.meaning.specs.Torrent.{File, info_of, plen_of, files_of}
use Rattle.halves.specs.V1Keys.{key_pieces}
use Rattle.halves.specs.V1Half.{V1Entry, is_there, total, is_hybrid, entries_of_half}
use Rattle.halves.specs.Halves.{Hybrid}
use Rattle.halves.specs.Stream.{StreamOf, none, zeros, content, file_start, zeros_behind, v1_hash_at, HashesAre}
use Rattle.halves.proofs.StreamLaws.{v1_hash_covers}
use Rattle.halves.specs.Decoded.{torrent_in, torrent_in_lem}
use Rattle.torrent.specs.Torrent.{checked_of, read_of}
use Rattle.torrent.specs.ReadMeans.{number_zero, info_hash, file_read_lem}
use Rattle.v1.specs.Place.{file_size}
use Rattle.v1.specs.V1.{HybridRead, V1Piece, V1Part, no_hybrid, hybrid_of, file_of, pieces_in, piece_of, v1_piece_of, pieces_from, no_part, part_of, v1_pieces_of}
use Rattle.v1.specs.Asked.{Stands}
use Rattle.v1.specs.HalfLaws.{Halves, same_size}
use Rattle.v1.specs.KnownLaws.{known, no_pieces, pieces_stand, file_stands}
use Rattle.v1.specs.ReadLaws.{piece_among, part_some}

-- ---- what is said of a piece and of all pieces of file n, which is v

-- piece i: its v1 hash is 20 bytes of `pieces`, by the file's place in the v1 half; the zeros behind it run to the piece's boundary, or to
-- the end of all entries, whichever is first
pub record PieceIs (es : Entries) (n : ℕ) (v : File) (i : ℕ) (r : V1Piece) : Type 0 where
  pub number : r.number ≡ 0
  pub hash : r.hash ≡ v1_hash_at (pieces_in es) (plen_of es) (file_start (entries_of_half es) n) i
  pub zeros : r.zeros ≡ zeros_behind (plen_of es) (total (entries_of_half es)) (file_start (entries_of_half es) n + i * plen_of es) (v.size - i * plen_of es)

-- the part of s: 20 bytes for each piece, inside s, which are what `piece` answers of the pieces one by one; all but the last cover no zeros
pub record PiecesPartIs (s : List ℕ) (plen : ℕ) (v : File) (piece : ℕ → V1Piece) (r : V1Part) : Type 0 where
  pub number : r.number ≡ 0
  pub size : r.size ≡ 20 * piece_count v.size plen
  pub inside : r.start + r.size ≤ length s
  pub hashes : (i : ℕ) → i < piece_count v.size plen → cut s (r.start + 20 * i) 20 ≡ (piece i).hash
  pub whole : (i : ℕ) → suc i < piece_count v.size plen → (piece i).zeros ≡ 0
  pub last : (i : ℕ) → suc i ≡ piece_count v.size plen → (piece i).zeros ≡ r.zeros

-- ---- small laws

-- the content of file n has its length
stream_size : (es : List V1Entry) (cs : List (List ℕ)) (bytes : List ℕ) → StreamOf es cs bytes → (n : ℕ) (c : List ℕ) → Nth cs n c → length c ≡ file_size es n
unfolding file_size Nth
stream_size es cs bytes none n c a = absurd a
stream_size es cs bytes (zeros e us ds more p t) zero c a = rw p (stream_size us ds more t zero c a)
stream_size es cs bytes (zeros e us ds more p t) (suc n) c a = rw p (stream_size us ds more t (suc n) c a)
stream_size es cs bytes (content e us d ds more p l t) zero c a = rw p (ap length a ∙ l)
stream_size es cs bytes (content e us d ds more p l t) (suc n) c a = rw p (stream_size us ds more t n c a)

hash_at : (pieces : List ℕ) (plen start i : ℕ) → v1_hash_at pieces plen start i ≡ cut pieces (20 * (start / plen + i)) 20
unfolding v1_hash_at
hash_at pieces plen start i = refl

-- a whole piece covers no zeros
whole_piece : (plen all at left : ℕ) → plen ≤ left → at + left ≤ all → zeros_behind plen all at left ≡ 0
unfolding zeros_behind
whole_piece plen all at left h g = omega arith

-- a piece that is not the last is whole
not_last : (plen n i : ℕ) → 0 < plen → suc i < piece_count n plen → i * plen + plen < n
unfolding piece_count
not_last plen n i p h = let w = ceil_below n plen (suc i) p h in omega (arith, add-mul i 1 plen)

own_piece : (plen n i : ℕ) → 0 < plen → i < piece_count n plen → i * plen < n
unfolding piece_count
own_piece plen n i p h = ceil_below n plen i p h

module _ (s : List ℕ) (es : Entries) (start : s ≡ encode (dictionary es)) (valid : Valid (dictionary es) max_levels) (taken : (read_of s).number ≡ 0) where
  got : (checked_of s).keys.number ≡ 0
  got = number_zero s es start valid taken

  value : torrent_in s ≡ es
  value = torrent_in_lem s es valid start

  -- ---- hybrid or not

  info_is : cut s (checked_of s).keys.info.start ((checked_of s).keys.info.end - (checked_of s).keys.info.start) ≡ encode (dictionary (info_of es))
  info_is = (known s got).info_bytes ∙ ap (λ (x : Entries). encode (dictionary (info_of x))) value

  -- HYBRID: 1 beside the v1 info hash, SHA-1 of the encoding of the value of `info`,
  pub hybrid_is : Hybrid es → hybrid_of s ≡ record { number = 0; hybrid = 1; hash = sha1 (encode (dictionary (info_of es))) }
  unfolding hybrid_of
  hybrid_is h = rw (got, value, is_there_lem (lookup key_pieces (info_of es)) h, info_is) refl

  -- which is the same bytes that the info hash is SHA-256 of
  pub same_bytes : Hybrid es → ((hybrid_of s).hash ≡ sha1 (encode (dictionary (info_of es)))) × ((read_of s).hash ≡ sha256 (encode (dictionary (info_of es))))
  same_bytes h = (ap (λ (r : HybridRead). r.hash) (hybrid_is h), info_hash s es start valid taken)

  -- PURE: 0 beside zeros
  pub pure_is : lookup key_pieces (info_of es) ≡ absent → hybrid_of s ≡ no_hybrid 0
  unfolding hybrid_of
  pure_is h = rw (got, value, ap is_there h) refl

  -- so it is 1 exactly if `info` has `pieces`
  pub hybrid_exactly : ((hybrid_of s).hybrid ≡ 1) ↔ Hybrid es
  hybrid_exactly = (
    λ e p. (let q = ap (λ (r : HybridRead). r.hybrid) (pure_is p) in omega arith),
    λ h. ap (λ (r : HybridRead). r.hybrid) (hybrid_is h),
  )

  pub pure_exactly : ((hybrid_of s).hybrid ≡ 0) ↔ (lookup key_pieces (info_of es) ≡ absent)
  pure_exactly = (λ e. by (lookup key_pieces (info_of es)) refl e, λ p. ap (λ (r : HybridRead). r.hybrid) (pure_is p))
    where
      by : (x : Lookup) → lookup key_pieces (info_of es) ≡ x → (hybrid_of s).hybrid ≡ 0 → x ≡ absent
      by absent q e = refl
      by (present v) q e =
          let there : Hybrid es = λ p. false≢true (ap is_there (sym p ∙ q)) in
          let h = ap (λ (r : HybridRead). r.hybrid) (hybrid_is there) in
          let w : ⊥ = omega arith in
          absurd w

  -- ---- file n of a hybrid

  module _ (hybrid : Hybrid es) where
    there : is_hybrid es ≡ true
    there = is_there_lem (lookup key_pieces (info_of es)) hybrid

    halves : Halves es
    halves = rw value at ((known s got).halves (ap is_hybrid value ∙ there))

    plen_is : (checked_of s).keys.plen ≡ plen_of es
    plen_is = (known s got).plen_is ∙ ap plen_of value

    some : 0 < plen_of es
    some = rw plen_is at (known s got).plen_some

    -- `pieces` stands in s
    from : (a b : ℕ) × (pieces_from s (checked_of s).keys.info.start ≡ part a b)
    from = by (pieces_from s (checked_of s).keys.info.start) refl
      where
        by : (w : Option Part) → pieces_from s (checked_of s).keys.info.start ≡ w → (a b : ℕ) × (w ≡ part a b)
        by None q = absurd (false≢true (sym (no_pieces s (checked_of s) (known s got) None (sym q) refl) ∙ ap is_hybrid value ∙ there))
        by (Some w) q = (w.start, w.end, refl)

    pieces_there : cut s from.0 (length (pieces_in es)) ≡ pieces_in es
    pieces_there = rw value at (pieces_stand s (checked_of s) (known s got) (part from.0 from.1) from.0 from.1 (sym from.2) refl)

    module _ (n : ℕ) (v : File) (at : Nth (files_of es) n v) where
      inside_files : n < (checked_of s).files
      inside_files = (file_read_lem s es start valid taken n v at).0

      size_is : file_size (entries_of_half es) n ≡ v.size
      size_is = same_size (entries_of_half es) (files_of es) halves.same n v at

      piece_answer : (i : ℕ) → v1_piece_of s n i ≡ piece_of (pieces_in es) (plen_of es) (file_of (info_of es) n) i
      unfolding v1_piece_of
      piece_answer i = rw (got, lt-ltb n (checked_of s).files inside_files, value, there) refl

      -- A PIECE: its v1 hash, and the zeros behind it
      pub piece_is : (i : ℕ) → i < piece_count v.size (plen_of es) → PieceIs es n v i (v1_piece_of s n i)
      piece_is i h = rw (piece_answer i, size_is, lt-ltb i (piece_count v.size (plen_of es)) h) (record { number = refl; hash = refl; zeros = refl })

      -- the content of the file among them has its length
      pub content_size : (cs : List (List ℕ)) (bytes : List ℕ) → StreamOf (entries_of_half es) cs bytes → (c : List ℕ) → Nth cs n c → length c ≡ v.size
      content_size cs bytes t c nth = stream_size (entries_of_half es) cs bytes t n c nth ∙ size_is

      -- "The v1 hash of a piece covers the zeros of the padding file behind it": in the bytes that the v1 half hashes, with the contents cs
      -- of the files, it is the hash of the file's own piece and then so many zeros
      pub piece_covers : (cs : List (List ℕ)) (bytes : List ℕ) → StreamOf (entries_of_half es) cs bytes → HashesAre (plen_of es) (pieces_in es) bytes
          → (c : List ℕ) → Nth cs n c → (i : ℕ) → i < piece_count v.size (plen_of es)
          → (v1_piece_of s n i).hash ≡ sha1 (cut c (i * plen_of es) (plen_of es) ++ replicate (v1_piece_of s n i).zeros 0)
      piece_covers cs bytes t h c nth i l =
          let p = piece_is i l in
          let k : length c ≡ v.size = content_size cs bytes t c nth in
          p.hash
          ∙ v1_hash_covers (plen_of es) (entries_of_half es) cs bytes (pieces_in es) t halves.boundary h n c nth i (omega (arith, k, own_piece (plen_of es) v.size i some l))
          ∙ ap (λ (z : ℕ). sha1 (cut c (i * plen_of es) (plen_of es) ++ replicate z 0)) (ap (λ (k : ℕ). zeros_behind (plen_of es) (total (entries_of_half es)) (file_start (entries_of_half es) n + i * plen_of es) (k - i * plen_of es)) k ∙ sym p.zeros)

      part_answer : v1_pieces_of s n ≡ part_of from.0 (plen_of es) (file_of (info_of es) n)
      unfolding v1_pieces_of
      part_answer = rw (got, lt-ltb n (checked_of s).files inside_files, value, there, from.2) refl

      -- AN EMPTY FILE has no v1 hashes
      pub part_empty : v.size ≡ 0 → v1_pieces_of s n ≡ no_part 0
      part_empty e = part_answer ∙ rw (size_is, eq-eqb v.size 0 e) refl

      stands : Stands (length s) from.0 (plen_of es) (file_start (entries_of_half es) n) v.size (total (entries_of_half es))
      stands =
          rw (value, plen_is, size_is) at (file_stands s (checked_of s) (known s got) (part from.0 from.1) from.0 from.1 (sym from.2) refl (file_of (info_of (torrent_in s)) n) n refl)

      -- THE PART of all pieces of a file
      pub part_is : (v.size ≡ 0 → ⊥) → PiecesPartIs s (plen_of es) v (v1_piece_of s n) (v1_pieces_of s n)
      part_is ne = rw done_part (record { number = refl; size = refl; inside = inside; hashes = hashes; whole = whole; last = last })
        where
          first : ℕ
          first = file_start (entries_of_half es) n / plen_of es

          count : ℕ
          count = piece_count v.size (plen_of es)

          last_zeros : ℕ
          last_zeros = zeros_behind (plen_of es) (total (entries_of_half es)) (file_start (entries_of_half es) n + (count - 1) * plen_of es) (v.size - (count - 1) * plen_of es)

          done_part : v1_pieces_of s n ≡ record { number = 0; start = from.0 + 20 * first; size = 20 * count; zeros = last_zeros }
          done_part = part_answer ∙ rw (size_is, ne_eqb v.size 0 ne) refl

          one : 0 < count
          one = part_some (length s) from.0 (plen_of es) (file_start (entries_of_half es) n) v.size (total (entries_of_half es)) stands ne

          last_piece : 0 < count → first + (count - 1) < piece_count (total (entries_of_half es)) (plen_of es)
          last_piece h = piece_among (length s) from.0 (plen_of es) (file_start (entries_of_half es) n) v.size (total (entries_of_half es)) stands (count - 1) (omega arith)

          inside : from.0 + 20 * first + 20 * count ≤ length s
          inside = omega (arith, last_piece one, stands.room, one)

          hashes : (i : ℕ) → i < count → cut s (from.0 + 20 * first + 20 * i) 20 ≡ (v1_piece_of s n i).hash
          hashes i h =
              let e : from.0 + 20 * first + 20 * i ≡ from.0 + 20 * (first + i) = omega arith in
              let m = piece_among (length s) from.0 (plen_of es) (file_start (entries_of_half es) n) v.size (total (entries_of_half es)) stands i h in
              ap (λ (j : ℕ). cut s j 20) e
              ∙ sym (cut_cut s from.0 (length (pieces_in es)) (20 * (first + i)) 20 (omega (arith, m, halves.twenty_each)))
              ∙ ap (λ (p : List ℕ). cut p (20 * (first + i)) 20) pieces_there
              ∙ sym ((piece_is i h).hash ∙ hash_at (pieces_in es) (plen_of es) (file_start (entries_of_half es) n) i)

          whole : (i : ℕ) → suc i < count → (v1_piece_of s n i).zeros ≡ 0
          whole i h =
              (piece_is i (omega arith)).zeros
              ∙ whole_piece (plen_of es) (total (entries_of_half es)) (file_start (entries_of_half es) n + i * plen_of es) (v.size - i * plen_of es)
              (omega (arith, not_last (plen_of es) v.size i some h)) (omega (arith, stands.within, not_last (plen_of es) v.size i some h))

          last : (i : ℕ) → suc i ≡ count → (v1_piece_of s n i).zeros ≡ last_zeros
          last i h =
              let e : i ≡ count - 1 = omega arith in
              (piece_is i (omega arith)).zeros
              ∙ ap (λ (j : ℕ). zeros_behind (plen_of es) (total (entries_of_half es)) (file_start (entries_of_half es) n + j * plen_of es) (v.size - j * plen_of es)) e
