-- BEP 3, "bencoding", made strict by 01, "The torrent": values, the one encoding of each, and which of them are valid.
-- Assumes nothing.
use Rattle.std.specs.Prelude.{◌≡◌, Bool, true, false, cond, List, [], ◌∷◌, ◌++◌, ℕ, zero, suc, ◌+◌, ◌/◌, ◌%◌, ◌^◌, ◌≤◌, ◌<◌, length, ltb}

-- the bytes that have a meaning, as characters of ASCII: `-` `0` `9` `:` `d` `e` `i` `l`
abbrev pub minus_sign : ℕ
minus_sign = 45

abbrev pub digit_zero : ℕ
digit_zero = 48

abbrev pub digit_nine : ℕ
digit_nine = 57

abbrev pub colon : ℕ
colon = 58

abbrev pub letter_d : ℕ
letter_d = 100

abbrev pub letter_e : ℕ
letter_e = 101

abbrev pub letter_i : ℕ
letter_i = 105

abbrev pub letter_l : ℕ
letter_l = 108

-- a value: an integer (whether it has a minus, and its size), a string, a list, a dictionary
mutual
  pub data Value : Type 0 where
    integer : Bool → ℕ → Value
    string : List ℕ → Value
    list : Items → Value
    dictionary : Entries → Value

  pub data Items : Type 0 where
    no_items : Items
    item : Value → Items → Items

  pub data Entries : Type 0 where
    no_entries : Entries
    entry : List ℕ → Value → Entries → Entries

-- a number in decimal: what n / 10 is in decimal, then the last digit; a number below 10 is one digit. More steps than n are enough
unfoldable pub decimal_in : ℕ → ℕ → List ℕ
decimal_in zero n = []
decimal_in (suc steps) n = cond (ltb n 10) ((digit_zero + n) ∷ []) (decimal_in steps (n / 10) ++ (digit_zero + n % 10) ∷ [])

abbrev pub decimal : ℕ → List ℕ
decimal n = decimal_in (suc n) n

-- a minus, or nothing
abbrev pub sign : Bool → List ℕ
sign true = minus_sign ∷ []
sign false = []

-- a string: its length, a colon, its bytes
abbrev pub encode_string : List ℕ → List ℕ
encode_string b = decimal (length b) ++ colon ∷ b

unfoldable mutual
  pub encode : Value → List ℕ
  encode (integer minus n) = letter_i ∷ (sign minus ++ (decimal n ++ letter_e ∷ []))
  encode (string b) = encode_string b
  encode (list vs) = letter_l ∷ encode_items vs
  encode (dictionary es) = letter_d ∷ encode_entries es

  pub encode_items : Items → List ℕ
  encode_items no_items = letter_e ∷ []
  encode_items (item v vs) = encode v ++ encode_items vs

  pub encode_entries : Entries → List ℕ
  encode_entries no_entries = letter_e ∷ []
  encode_entries (entry k v es) = encode_string k ++ (encode v ++ encode_entries es)

-- the order of keys as raw bytes: by the first byte that differs, and a key before those that it begins
unfoldable pub precedes : List ℕ → List ℕ → Bool
precedes [] [] = false
precedes [] (y ∷ ys) = true
precedes (x ∷ xs) [] = false
precedes (x ∷ xs) (y ∷ ys) = cond (ltb x y) true (cond (ltb y x) false (precedes xs ys))

-- the key before, if there is one
pub data KeyBefore : Type 0 where
  none : KeyBefore
  after : List ℕ → KeyBefore

-- whether a key stands after the key before
abbrev pub ascends : KeyBefore → List ℕ → Bool
ascends none k = true
ascends (after j) k = precedes j k

-- signed 64 bits, and no minus zero
abbrev pub IntegerFits : Bool → ℕ → Type 0
IntegerFits true n = (0 < n) × (n ≤ 2 ^ 63)
IntegerFits false n = n < 2 ^ 63

-- integers fit, keys strictly ascend, and lists and dictionaries are nested to at most so many levels
unfoldable mutual
  pub Valid : Value → ℕ → Type 0
  Valid (integer minus n) levels = IntegerFits minus n
  Valid (string b) levels = Unit {0}
  Valid (list vs) zero = ⊥
  Valid (list vs) (suc levels) = ItemsValid vs levels
  Valid (dictionary es) zero = ⊥
  Valid (dictionary es) (suc levels) = EntriesValid es none levels

  pub ItemsValid : Items → ℕ → Type 0
  ItemsValid no_items levels = Unit {0}
  ItemsValid (item v vs) levels = Valid v levels × ItemsValid vs levels

  pub EntriesValid : Entries → KeyBefore → ℕ → Type 0
  EntriesValid no_entries j levels = Unit {0}
  EntriesValid (entry k v es) j levels = (ascends j k ≡ true) × Valid v levels × EntriesValid es (after k) levels
