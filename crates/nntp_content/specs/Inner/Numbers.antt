-- What is said with the words of `Numbers.antt`, and needn't be believed.
use Rattle.std.specs.{Prelude.{◌≡◌, ◌⊎◌, ◌++◌, ℕ, if◌then◌else◌, true, List, [], map, bytes_eq}, List.{list_any, AllByRecursion}, FinMap.{insert, is_sorted}}
use Rattle.std.specs.{Ordering.{nat_cmp}, declared.rc.RcStr.{RcStr}, Rc.{rc_str_bytes}}
use Rattle.nntp_article.specs.{Article.Parts.{Id}, Inner.ShownMap.{shown, shown_entry}, Session.Spool.{Numbers}}
use Rattle.nntp_content.specs.Numbers.{has_id}

-- the numbers with one more, if its id is not there
abbrev pub with_number : Numbers → ℕ → Id → Numbers
with_number N n id = if has_id N id then N else insert N n id

-- the numbers of a list, each with the octets of its id
abbrev pub numbers_shown : {A : Type 0} → List (ℕ × RcStr A) → Numbers
numbers_shown ids = shown nat_cmp (λ (n : ℕ). n) rc_str_bytes ids

-- each number is greater than those before it
abbrev pub AreAscending : {A : Type 0} → List (ℕ × RcStr A) → Type 0
AreAscending ids = is_sorted nat_cmp (map (shown_entry (λ (n : ℕ). n) rc_str_bytes) ids) ≡ true

-- these are the ids of the numbers
abbrev pub AreIdsOf : {A : Type 0} → List (RcStr A) → Numbers → Type 0
AreIdsOf ids N = (id : Id) → list_any (λ known. bytes_eq id (rc_str_bytes known)) ids ≡ has_id N id

-- these are the ids of the numbers, or none of them
abbrev pub AreKnown : {A : Type 0} → List (RcStr A) → Numbers → Type 0
AreKnown known N = (known ≡ []) ⊎ AreIdsOf known N

-- the list in two parts, by what holds of the numbers of each
abbrev pub AreParts : {A : Type 0} → List (ℕ × RcStr A) → (ℕ → Type 0) → (ℕ → Type 0) → List (ℕ × RcStr A) → List (ℕ × RcStr A) → Type 0
AreParts ids P Q front rest = (ids ≡ front ++ rest) × AllByRecursion (λ e. P e.0) front × AllByRecursion (λ e. Q e.0) rest
