-- Lists of keys as text.
use Rattle.std.specs.Prelude.{ℕ, ◌^◌, List, [], ◌∷◌, ◌++◌, codes, nat_lt}
use Rattle.columns.specs.Cols.{Cols, pick, set_in}
use Rattle.columns.specs.Shown.{led, listed}
use Rattle.keys.specs.declared.text.KeyLead.{KeyLead}
use Rattle.keys.specs.declared.text.KeyLead.TheVariants.{First, Next}

-- what stands before a key
abbrev pub key_lead : KeyLead → List ℕ
key_lead First = codes " "
key_lead Next = codes "; "

-- the sets that the numbers stand for; a number that names a column which a table of n does not have stands for none
abbrev pub fitting : ℕ → List ℕ → List Cols
fitting n [] = []
fitting n (x ∷ xs) = pick (nat_lt x (2 ^ n)) (set_in 0 n x ∷ fitting n xs) (fitting n xs)

-- the word, and behind it the keys, parted by a semicolon and a space
abbrev pub keys_text : List Cols → List ℕ
keys_text ks = codes "keys" ++ led listed (codes " ") (codes "; ") ks
