-- The files by positions are the files of the value: the walk of the tree's bytes t is right exactly if the value is, and then has its
-- files in the same order. By induction on the value, with the levels left beside it.
-- Assumes nothing.
use Rattle.filetree.specs.File.{right_file}
use Rattle.std.specs.Prelude.{◌≡◌, Bool, true, false, ◌&&◌, ℕ, zero, suc, ◌+◌, ◌-◌, ◌≤◌, drop, List, [], ◌∷◌, ◌++◌, Option, Some, None}
use Rattle.std.proofs.Math.Path.{refl}
use Rattle.std.proofs.Common.{sym, ap, ap₂, ◌∙◌, arith, append-nil}
use Rattle.std.proofs.Math.Bool.{and-false}
use Rattle.std.proofs.lemmas.Bool.{false≢true}
use Rattle.std.proofs.lemmas.List.{map-append}
use Rattle.std.proofs.Math.ListN.{length, length-append}
use Rattle.octets.specs.Octets.{cut}
use Rattle.limits.specs.Limits.{max_levels}
use Rattle.bencode.specs.Grammar.{colon, Value, integer, string, list, dictionary, Entries, no_entries, entry, decimal, decimal_in, encode_string, encode, encode_entries, KeyBefore, none, after as after_key, Valid, EntriesValid}
use Rattle.bencode.specs.Parts.{is_dictionary, present}
use Rattle.bencode.specs.CompleteLaws.{content_start, string_some, dictionary_bytes}
use Rattle.bencode.specs.DepthLaws.{more_levels}
use Rattle.bencode.specs.PartsLaws.{value_start, content_is, dictionary_is, is_dictionary_value, entries_length, entries_some, after_part}
use Rattle.filetree.specs.File.{file_at}
use Rattle.filetree.specs.Token.{ends_here, node_token, file_token, token_at, leaf_token}
use Rattle.filetree.specs.Tree.{max_elements, Element, Listed, Files, wrong, files, down, listed_as, after, onward, on_token, files_from, files_below, files_in, right, listed}
use Rattle.filetree.specs.declared.file.File.{File as FileFound}
use Rattle.meaning.specs.Torrent.{File, entries_of, file_right, element_right, no_more, node_right, branch_right, nodes_right, tree_right, files_of_node, files_of_entries, file_value}
use Rattle.filetree.specs.Reading.{element, elements, read_file, read_files}
use Rattle.joined.specs.FileLaws.{FileAgrees, file_is}
use Rattle.joined.specs.TokenLaws.{entries_there, entry_bytes, ends_is, token_end, key_token, node_other, node_empty, node_opened, node_file, file_wrong, file_right_lem}

-- ---- files and paths as they are read

-- one element more
elements_down : (t : List ℕ) (path : List Element) (a b : ℕ) (k : List ℕ) → cut t a (b - a) ≡ k → elements t (down path a b) ≡ elements t path ++ (k ∷ [])
elements_down t [] a b k e = ap (λ (x : List ℕ). x ∷ []) e
elements_down t (x ∷ path) a b k e = ap (λ (l : List (List ℕ)). element t x ∷ l) (elements_down t path a b k e)

-- each element has the bytes that its positions say
unfoldable pub Fits : List ℕ → List Element → Type 0
Fits t [] = Unit {0}
Fits t (e ∷ path) = (length (element t e) ≡ e.end - e.start) × Fits t path

fits_down : (t : List ℕ) (path : List Element) (a b : ℕ) (k : List ℕ) → Fits t path → cut t a (b - a) ≡ k → length k ≡ b - a → Fits t (down path a b)
unfolding Fits
fits_down t [] a b k f e n = (ap length e ∙ n, tt)
fits_down t (x ∷ path) a b k f e n = (f.0, fits_down t path a b k f.1 e n)

-- so has each element of each file
unfoldable pub AllFit : List ℕ → List Listed → Type 0
AllFit t [] = Unit {0}
AllFit t (f ∷ fs) = Fits t f.path × AllFit t fs

fit_append : (t : List ℕ) (fs gs : List Listed) → AllFit t fs → AllFit t gs → AllFit t (fs ++ gs)
unfolding AllFit
fit_append t [] gs x y = y
fit_append t (f ∷ fs) gs x y = (x.0, fit_append t fs gs x.1 y)

-- ---- what a walk gives

-- all entries of a directory: the files vs, and the position past them
abbrev Gives : Bool → List ℕ → Files → ℕ → List File → Type 0
Gives false t w end vs = w ≡ wrong
Gives true t w end vs = (fs : List Listed) × (w ≡ files fs end) × (read_files t fs ≡ vs) × AllFit t fs

-- one node: the files vs, and then what `go` has from behind it
abbrev NodeGives : Bool → List ℕ → Files → (ℕ → Files) → ℕ → List File → Type 0
NodeGives false t w go end vs = w ≡ wrong
NodeGives true t w go end vs = (fs : List Listed) × (w ≡ after fs (go end)) × (read_files t fs ≡ vs) × AllFit t fs

-- a node, and the entries behind it
both : (a b : Bool) (t : List ℕ) (w : Files) (go : ℕ → Files) (mid end : ℕ) (vs us : List File) → NodeGives a t w go mid vs → Gives b t (go mid) end us → Gives (a && b) t w end (vs ++ us)
both false b t w go mid end vs us n g = n
both true false t w go mid end vs us n g = n.1 ∙ ap (after n.0) g
both true true t w go mid end vs us n g =
    (n.0 ++ g.0, n.1 ∙ ap (after n.0) g.1, map-append (read_file t) n.0 g.0 ∙ ap₂ ◌++◌ n.2 g.2, fit_append t n.0 g.0 n.3 g.3)

-- ---- what a level of nesting is needed for

-- without a level nothing is a dictionary
file_level : (w : Value) → Valid w 0 → file_right w ≡ false
unfolding Valid file_right
file_level (dictionary es) h = absurd h
file_level (integer minus n) h = refl
file_level (string b) h = refl
file_level (list vs) h = refl

node_level : (w : Value) → Valid w 0 → node_right w ≡ false
unfolding Valid node_right
node_level (dictionary es) h = absurd h
node_level (integer minus n) h = refl
node_level (string b) h = refl
node_level (list vs) h = refl

-- with one level no node is right: it takes one, and the file's dictionary another
branch_level : (es : Entries) (j : KeyBefore) → EntriesValid es j 0 → branch_right es ≡ false
unfolding branch_right Valid
branch_level no_entries j h = refl
branch_level (entry [] w es) j h = rw (file_level w h.1) (and-false (no_more es))
branch_level (entry (c ∷ cs) w es) j h = rw (node_level w h.1) (and-false (element_right (c ∷ cs)))

node_shallow : (v : Value) → Valid v 1 → node_right v ≡ false
unfolding node_right Valid
node_shallow (dictionary es) h = branch_level es none h
node_shallow (integer minus n) h = refl
node_shallow (string b) h = refl
node_shallow (list vs) h = refl

-- so no directory is
nodes_shallow : (k : List ℕ) (v : Value) (es : Entries) (j : KeyBefore) → EntriesValid (entry k v es) j 1 → nodes_right (entry k v es) ≡ false
unfolding nodes_right Valid
nodes_shallow k v es j h = rw (node_shallow v h.1) (and-false (element_right k))

-- ---- one node

-- its bytes: its key at `at`, and q behind it
record NodeAt (t : List ℕ) (at : ℕ) (k : List ℕ) (v : Value) (q : List ℕ) : Type 0 where
  pub token : token_at t at ≡ node_token t (content_start at k) (value_start at k)
  pub value : drop (value_start at k) t ≡ encode v ++ q
  pub key : cut t (content_start at k) (value_start at k - content_start at k) ≡ k

node_at : (t : List ℕ) (at : ℕ) (k : List ℕ) (v : Value) (q : List ℕ) → element_right k ≡ true → drop at t ≡ encode_string k ++ (encode v ++ q) → NodeAt t at k v q
node_at t at k v q r e =
    record {
      token = key_token t at k (encode v ++ q) e ∙ rw r refl;
      value = after_part t at (encode_string k) (encode v ++ q) e;
      key = content_is t k (encode v ++ q) at e;
    }

-- the empty key has two bytes
empty_key : length (encode_string []) ≡ 2
unfolding decimal_in
empty_key = refl

module _ (t : List ℕ) (sub : ℕ → List Element → Files) (go : ℕ → Files) (at : ℕ) (path : List Element) (k q : List ℕ) where
  -- what stands at `at`, and where
  abbrev here : Files
  here = on_token sub go at path (token_at t at)

  abbrev a : ℕ
  a = content_start at k

  abbrev b : ℕ
  b = value_start at k

  -- the files below it
  abbrev inside : List (List ℕ)
  inside = elements t path ++ (k ∷ [])

  bad : token_at t at ≡ None → here ≡ wrong
  bad e = ap (on_token sub go at path) e

  -- the key has the bytes between its positions
  key_size : length k ≡ b - a
  key_size = omega (arith, length-append (decimal (length k)) (colon ∷ k))

  -- a node that is no dictionary
  other_gives : (v : Value) → NodeAt t at k v q → is_dictionary_value v ≡ false → here ≡ wrong
  other_gives v n e = bad (n.token ∙ node_other t a b q (ap is_dictionary n.value ∙ dictionary_is v q ∙ e))

  -- a node whose first key is empty: a file
  file_gives : (w : Value) (es : Entries) → NodeAt t at k (dictionary (entry [] w es)) q → Valid w max_levels → Fits t path
      → NodeGives (no_more es && file_right w) t here go (b + length (encode (dictionary (entry [] w es)))) (file_value inside (entries_of (present w)) ∷ [])
  file_gives w es n valid fit = by_file (file_at t y) refl (file_is t y w (encode_entries es ++ q) there valid)
    where
      y : ℕ
      y = value_start (b + 1) []

      first : drop (b + 1) t ≡ encode_string [] ++ (encode w ++ (encode_entries es ++ q))
      first = entries_there t b (entry [] w es) q n.value ∙ entry_bytes [] w es q

      there : drop y t ≡ encode w ++ (encode_entries es ++ q)
      there = after_part t (b + 1) (encode_string []) (encode w ++ (encode_entries es ++ q)) first

      token : token_at t at ≡ file_token t a b y
      token = n.token ∙ node_file t a b q w es n.value

      -- behind the file's own end
      past : y + length (encode w) + 1 ≡ b + length (encode (dictionary (entry [] w no_entries)))
      past = unfold encode in omega (arith, empty_key, length-append (encode_string []) (encode w ++ encode_entries no_entries), length-append (encode w) (encode_entries no_entries))

      by_more : (us : Entries) → es ≡ us → (size r : ℕ) → file_at t y ≡ right_file size r → FileAgrees t (file_right w) (entries_of (present w)) (right_file size r)
          → NodeGives (no_more us && true) t here go (b + length (encode (dictionary (entry [] w us)))) (file_value inside (entries_of (present w)) ∷ [])
      by_more (entry x u us) e size r f g = bad (token ∙ file_right_lem t a b y size r w es q f there valid ∙ rw e refl)
      by_more no_entries e size r f g =
          let leaf : token_at t at ≡ leaf_token a b size r (y + length (encode w) + 1) = token ∙ file_right_lem t a b y size r w es q f there valid ∙ rw e refl in (
            listed_as size r (down path a b) ∷ [],
            ap (on_token sub go at path) leaf ∙ ap (λ (z : ℕ). after (listed_as size r (down path a b) ∷ []) (go z)) past,
            ap (λ (z : File). z ∷ []) (is_read size r g),
            unfold AllFit in (fits_down t path a b k fit n.key key_size, tt),
          )
        where
          is_read : (size r : ℕ) → FileAgrees t (file_right w) (entries_of (present w)) (right_file size r) → read_file t (listed_as size r (down path a b)) ≡ file_value inside (entries_of (present w))
          is_read size r g = unfold read_file in rw (g.2, g.1, elements_down t path a b k n.key) refl

      by_file : (f : Option FileFound) → file_at t y ≡ f → FileAgrees t (file_right w) (entries_of (present w)) f
          → NodeGives (no_more es && file_right w) t here go (b + length (encode (dictionary (entry [] w es)))) (file_value inside (entries_of (present w)) ∷ [])
      by_file None f g = rw (g, and-false (no_more es)) (bad (token ∙ file_wrong t a b y f))
      by_file (Some x) f g = rw g.0 (by_more es refl x.length x.root f g)

  -- a node that is a directory, by what is inside
  open_gives : (o : Bool) (c : ℕ) (cs : List ℕ) (w : Value) (es : Entries) (vs : List File) → NodeAt t at k (dictionary (entry (c ∷ cs) w es)) q
      → Gives o t (sub (b + 1) (down path a b)) (b + 1 + length (encode_entries (entry (c ∷ cs) w es))) vs
      → NodeGives o t here go (b + length (encode (dictionary (entry (c ∷ cs) w es)))) vs
  open_gives false c cs w es vs n g = ap (on_token sub go at path) (n.token ∙ node_opened t a b q c cs w es n.value) ∙ ap (λ (z : Files). onward z go) g
  open_gives true c cs w es vs n g =
      let opens : here ≡ onward (sub (b + 1) (down path a b)) go = ap (on_token sub go at path) (n.token ∙ node_opened t a b q c cs w es n.value) in
      let end : b + 1 + length (encode_entries (entry (c ∷ cs) w es)) ≡ b + length (encode (dictionary (entry (c ∷ cs) w es))) = omega (arith, ap length (dictionary_bytes (entry (c ∷ cs) w es))) in
      (g.0, opens ∙ ap (λ (z : Files). onward z go) g.1 ∙ ap (λ (z : ℕ). after g.0 (go z)) end, g.2, g.3)

-- ---- all entries of a directory, in levels and entries

-- the entries es of the directory `path` give what their value says, with a level below them or more
abbrev Walks : List ℕ → Entries → Type 0
Walks t es = (l at steps : ℕ) (r : List ℕ) (j : KeyBefore) (path : List Element) → drop at t ≡ encode_entries es ++ r → EntriesValid es j (suc (suc l)) → suc (suc l) ≤ max_levels
    → length (encode_entries es) ≤ steps → Fits t path
    → Gives (nodes_right es) t (files_from (files_below l t) steps t at path) (at + length (encode_entries es)) (files_of_entries (elements t path) es)

-- more steps than bytes are enough
steps_enough : (t : List ℕ) (at : ℕ) (es : Entries) (r : List ℕ) → drop at t ≡ encode_entries es ++ r → length (encode_entries es) ≤ suc (length t)
steps_enough t at es r e = omega (arith, ap length e, length-append (encode_entries es) r, drop_shorter t at)
  where
    drop_shorter : (t : List ℕ) (n : ℕ) → length (drop n t) ≤ length t
    drop_shorter [] zero = omega arith
    drop_shorter [] (suc n) = omega arith
    drop_shorter (x ∷ t) zero = omega arith
    drop_shorter (x ∷ t) (suc n) = omega (arith, drop_shorter t n)

-- a directory inside: too deep, or its entries
inside_gives : (t : List ℕ) (l at : ℕ) (path : List Element) (c : ℕ) (cs : List ℕ) (w : Value) (es : Entries) (r : List ℕ) → Walks t (entry (c ∷ cs) w es)
    → drop at t ≡ encode_entries (entry (c ∷ cs) w es) ++ r → EntriesValid (entry (c ∷ cs) w es) none (suc l) → suc l ≤ max_levels → Fits t path
    → Gives (nodes_right (entry (c ∷ cs) w es)) t (files_below l t at path) (at + length (encode_entries (entry (c ∷ cs) w es))) (files_of_entries (elements t path) (entry (c ∷ cs) w es))
unfolding files_below
inside_gives t zero at path c cs w es r walks e h m fit = rw (nodes_shallow (c ∷ cs) w es none h) refl
inside_gives t (suc l) at path c cs w es r walks e h m fit = walks l at (suc (length t)) r none path e h m (steps_enough t at (entry (c ∷ cs) w es) r e) fit

-- a node that is a dictionary, by its first key
branch_gives : (es : Entries) (t : List ℕ) → Walks t es → (l at : ℕ) (k q : List ℕ) (path : List Element) (go : ℕ → Files) → NodeAt t at k (dictionary es) q → EntriesValid es none (suc l)
    → suc l ≤ max_levels → Fits t path
    → NodeGives (branch_right es) t (on_token (files_below l t) go at path (token_at t at)) go (value_start at k + length (encode (dictionary es))) (files_of_entries (elements t path ++ (k ∷ [])) es)
unfolding branch_right nodes_right files_of_entries Valid
branch_gives no_entries t walks l at k q path go n h m fit = bad t (files_below l t) go at path k q (n.token ∙ node_empty t (content_start at k) (value_start at k) q n.value)
branch_gives (entry [] w es) t walks l at k q path go n h m fit = file_gives t (files_below l t) go at path k q w es n (more_levels w (suc l) max_levels m h.1) fit
branch_gives (entry (c ∷ cs) w es) t walks l at k q path go n h m fit =
    let b = value_start at k in
    let below = inside_gives t l (b + 1) (down path (content_start at k) b) c cs w es q walks (entries_there t b (entry (c ∷ cs) w es) q n.value) h m
    (fits_down t path (content_start at k) b k fit n.key (key_size t (files_below l t) go at path k q)) in
    open_gives t (files_below l t) go at path k q (nodes_right (entry (c ∷ cs) w es)) c cs w es (files_of_entries (elements t path ++ (k ∷ [])) (entry (c ∷ cs) w es)) n
    (rw (elements_down t path (content_start at k) b k n.key) at below)

-- one step of the walk
from_step : (sub : ℕ → List Element → Files) (steps : ℕ) (t : List ℕ) (at : ℕ) (path : List Element)
    → files_from sub (suc steps) t at path ≡ on_token sub (λ k. files_from sub steps t k path) at path (token_at t at)
unfolding files_from
from_step sub steps t at path = refl

-- an end
none_gives : (t : List ℕ) → Walks t no_entries
unfolding nodes_right files_of_entries encode
none_gives t l at zero r j path e h m g fit = absurd (omega arith)
none_gives t l at (suc steps) r j path e h m g fit =
    ([], from_step (files_below l t) steps t at path ∙ ap (on_token (files_below l t) (λ k. files_from (files_below l t) steps t k path) at path) (token_end t at r e), refl, unfold AllFit in tt)

-- a key that is no path element
key_wrong : (sub : ℕ → List Element → Files) (go : ℕ → Files) (t : List ℕ) (at : ℕ) (path : List Element) (k q : List ℕ) → drop at t ≡ encode_string k ++ q → element_right k ≡ false
    → on_token sub go at path (token_at t at) ≡ wrong
key_wrong sub go t at path k q e r =
    let token : token_at t at ≡ None = key_token t at k q e ∙ rw r refl in
    ap (on_token sub go at path) token

first_wrong : (t : List ℕ) (l at steps : ℕ) (path : List Element) (k q : List ℕ) → drop at t ≡ encode_string k ++ q → element_right k ≡ false → files_from (files_below l t) steps t at path ≡ wrong
unfolding files_from
first_wrong t l at zero path k q e r = refl
first_wrong t l at (suc steps) path k q e r = key_wrong (files_below l t) (λ i. files_from (files_below l t) steps t i path) t at path k q e r

-- an entry, if its key is a path element, and those behind it
module _ (k : List ℕ) (v : Value) (es : Entries) (t : List ℕ) (l at : ℕ) (r : List ℕ) (path : List Element) (vs : List File) where
  -- behind its value
  abbrev mid : ℕ
  mid = value_start at k + length (encode v)

  -- the same end
  end_same : mid + length (encode_entries es) ≡ at + length (encode_entries (entry k v es))
  end_same = omega (arith, entries_length k v es)

  entry_gives : (steps : ℕ) → drop at t ≡ encode_entries (entry k v es) ++ r → length (encode_entries (entry k v es)) ≤ steps
      → (element_right k ≡ true → (go : ℕ → Files) → NodeGives (node_right v) t (on_token (files_below l t) go at path (token_at t at)) go mid vs)
      → ((n : ℕ) → drop mid t ≡ encode_entries es ++ r → length (encode_entries es) ≤ n
      → Gives (nodes_right es) t (files_from (files_below l t) n t mid path) (mid + length (encode_entries es)) (files_of_entries (elements t path) es))
      → Gives (element_right k && (node_right v && nodes_right es)) t (files_from (files_below l t) steps t at path) (at + length (encode_entries (entry k v es)))
      (vs ++ files_of_entries (elements t path) es)
  entry_gives zero e g n m = absurd (omega (arith, entries_some (entry k v es)))
  entry_gives (suc steps) e g n m = rw (from_step (files_below l t) steps t at path) (by_key (element_right k) refl)
    where
      go : ℕ → Files
      go i = files_from (files_below l t) steps t i path

      there : drop at t ≡ encode_string k ++ (encode v ++ (encode_entries es ++ r))
      there = e ∙ entry_bytes k v es r

      behind : drop mid t ≡ encode_entries es ++ r
      behind = after_part t (value_start at k) (encode v) (encode_entries es ++ r) (after_part t at (encode_string k) (encode v ++ (encode_entries es ++ r)) there)

      rest : Gives (nodes_right es) t (go mid) (at + length (encode_entries (entry k v es))) (files_of_entries (elements t path) es)
      rest = rw end_same at (m steps behind (omega (arith, entries_length k v es, string_some k)))

      by_key : (o : Bool) → element_right k ≡ o
          → Gives (o && (node_right v && nodes_right es)) t (on_token (files_below l t) go at path (token_at t at)) (at + length (encode_entries (entry k v es))) (vs ++ files_of_entries (elements t path) es)
      by_key false q = key_wrong (files_below l t) go t at path k (encode v ++ (encode_entries es ++ r)) there q
      by_key true q =
          both (node_right v) (nodes_right es) t (on_token (files_below l t) go at path (token_at t at)) go mid (at + length (encode_entries (entry k v es))) vs (files_of_entries (elements t path) es) (n q go) rest

mutual
  unfolding node_right branch_right nodes_right element_right files_of_node files_of_entries Valid

  -- a node gives what its value says
  node_gives : (v : Value) (t : List ℕ) (l at : ℕ) (k q : List ℕ) (path : List Element) (go : ℕ → Files) → NodeAt t at k v q → Valid v (suc (suc l)) → suc (suc l) ≤ max_levels → Fits t path
      → NodeGives (node_right v) t (on_token (files_below l t) go at path (token_at t at)) go (value_start at k + length (encode v)) (files_of_node (elements t path ++ (k ∷ [])) v)
  node_gives (integer minus i) t l at k q path go n h m fit = other_gives t (files_below l t) go at path k q (integer minus i) n refl
  node_gives (string b) t l at k q path go n h m fit = other_gives t (files_below l t) go at path k q (string b) n refl
  node_gives (list vs) t l at k q path go n h m fit = other_gives t (files_below l t) go at path k q (list vs) n refl
  node_gives (dictionary es) t l at k q path go n h m fit = branch_gives es t (entries_give es t) l at k q path go n h (omega arith) fit

  -- the entries of a directory, one after the other
  entries_give : (es : Entries) (t : List ℕ) → Walks t es
  entries_give no_entries t = none_gives t
  entries_give (entry [] v es) t = λ l at steps r j path e h m g fit. first_wrong t l at steps path [] (encode v ++ (encode_entries es ++ r)) (e ∙ entry_bytes [] v es r) refl
  entries_give (entry (c ∷ cs) v es) t = λ l at steps r j path e h m g fit.
      entry_gives (c ∷ cs) v es t l at r path (files_of_node (elements t path ++ ((c ∷ cs) ∷ [])) v) steps e g
      (λ o go. node_gives v t l at (c ∷ cs) (encode_entries es ++ r) path go (node_at t at (c ∷ cs) v (encode_entries es ++ r) o (e ∙ entry_bytes (c ∷ cs) v es r)) h.1 m fit)
      (λ n f k. entries_give es t l (value_start at (c ∷ cs) + length (encode v)) n r (after_key (c ∷ cs)) path f h.2 m k fit)

-- ---- the file tree

-- what is read of the whole tree
abbrev TreeIs : Bool → List ℕ → Files → List File → Type 0
TreeIs false t w vs = right w ≡ false
TreeIs true t w vs = (right w ≡ true) × (read_files t (listed w) ≡ vs) × AllFit t (listed w)

tree_gives : (o : Bool) (t : List ℕ) (w : Files) (end : ℕ) (vs : List File) → Gives o t w end vs → TreeIs o t w vs
unfolding right listed
tree_gives false t w end vs g = ap right g
tree_gives true t w end vs g = (ap right g.1, ap (λ (z : Files). read_files t (listed z)) g.1 ∙ g.2, rw g.1 g.3)

-- the walk from the top
top_step : (t : List ℕ) → files_below max_elements t 1 [] ≡ files_from (files_below (max_elements - 1) t) (suc (length t)) t 1 []
unfolding files_below
top_step t = refl

tree_is : (t : List ℕ) (es : Entries) → t ≡ encode (dictionary es) → Valid (dictionary es) (max_levels - 2) → TreeIs (tree_right es) t (files_in t) (files_of_entries [] es)
unfolding files_in tree_right Valid
tree_is t es e h = by_first es refl (behind ∙ sym (append-nil (encode_entries es))) h
  where
    behind : drop 1 t ≡ encode_entries es
    behind = ap (λ (x : List ℕ). drop 1 x) (e ∙ dictionary_bytes es)

    by_first : (us : Entries) → es ≡ us → drop 1 t ≡ encode_entries us ++ [] → EntriesValid us none (max_levels - 3) → TreeIs (tree_right us) t (files_in t) (files_of_entries [] us)
    by_first no_entries q f v = rw (ap ends_here f ∙ ends_is no_entries []) (unfold right in refl)
    by_first (entry k u us) q f v =
        rw (ap ends_here f ∙ ends_is (entry k u us) [])
        (rw (top_step t)
        (tree_gives (nodes_right (entry k u us)) t (files_from (files_below (max_elements - 1) t) (suc (length t)) t 1 []) (1 + length (encode_entries (entry k u us))) (files_of_entries [] (entry k u us))
        (entries_give (entry k u us) t (max_elements - 1) 1 (suc (length t)) [] none [] f v (omega arith) (steps_enough t 1 (entry k u us) [] f) (unfold Fits in tt))))

module _ (t : List ℕ) (es : Entries) (e : t ≡ encode (dictionary es)) (h : Valid (dictionary es) (max_levels - 2)) where
  -- the tree's bytes are right exactly if the value is
  pub tree_right_lem : right (files_in t) ≡ tree_right es
  tree_right_lem = by_right (tree_right es) (tree_is t es e h)
    where
      by_right : (o : Bool) → TreeIs o t (files_in t) (files_of_entries [] es) → right (files_in t) ≡ o
      by_right true w = w.0
      by_right false w = w

  -- and then its files are those of the value, in the same order
  pub tree_files : tree_right es ≡ true → read_files t (listed (files_in t)) ≡ files_of_entries [] es
  tree_files q = by_right (tree_right es) q (tree_is t es e h)
    where
      by_right : (o : Bool) → o ≡ true → TreeIs o t (files_in t) (files_of_entries [] es) → read_files t (listed (files_in t)) ≡ files_of_entries [] es
      by_right true g w = w.1
      by_right false g w = absurd (false≢true g)

  -- and their path elements have the bytes that their positions say
  pub tree_fits : tree_right es ≡ true → AllFit t (listed (files_in t))
  tree_fits q = by_right (tree_right es) q (tree_is t es e h)
    where
      by_right : (o : Bool) → o ≡ true → TreeIs o t (files_in t) (files_of_entries [] es) → AllFit t (listed (files_in t))
      by_right true g w = w.2
      by_right false g w = absurd (false≢true g)
