-- What the first item of a pattern makes of a text (RFC 3977, section 4.2).
use Rattle.std.specs.Prelude.{ℕ, ◌≡◌, ◌≢◌, ◌<◌, ◌⊎◌, List, [], ◌∷◌, map, length, ⊤}
use Rattle.nntp_wire.specs.{Name.{IsUtf8Of}, Wildmat.{Matches, item_of}, declared.pattern.Step.{Step, TheVariants.{Ends, Star, One, Fails}}}

-- the item, `?` or the character itself, takes this character
abbrev pub Fits : ℕ → ℕ → Type 0
Fits item c = (item ≢ 42) × ((item ≡ 63) ⊎ (item ≡ c))

-- the step is that of the items, by their characters, at the text
abbrev pub Takes : Step → List ℕ → List ℕ → Type 0
Takes Ends items text = (items ≡ []) × (text ≡ [])
Takes (Star rest) items text = (more : List ℕ) × IsUtf8Of more rest.now × (items ≡ 42 ∷ more)
Takes (One rest others) items text =
    (item c : ℕ) × (more left : List ℕ) × IsUtf8Of more rest.now × IsUtf8Of left others.now
    × (items ≡ item ∷ more) × (text ≡ c ∷ left) × Fits item c
Takes Fails items text = ¬ (Matches (map item_of items) text)

-- what a step leaves is shorter
abbrev pub IsShorter : Step → List ℕ → List ℕ → Type 0
IsShorter Ends items text = ⊤
IsShorter (Star rest) items text = length rest.now < length items
IsShorter (One rest others) items text = (length rest.now < length items) × (length others.now < length text)
IsShorter Fails items text = ⊤
