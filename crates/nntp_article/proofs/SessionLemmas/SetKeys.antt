-- A test over the keys of a set, once one was put among them.
use Rattle.std.{proofs.Common.{◌≡◌, Bool, List, [], ◌∷◌, refl, arith}, specs.{declared.cmp.Ordering.{Ordering, TheVariants.{Equal}}, Prelude.{◌||◌}}}
use Rattle.std.specs.{List.{list_any}, BTreeSet.{insert_key}}

pub or_swap : (a b c : Bool) → (a || (b || c)) ≡ (b || (a || c))
or_swap a b c = grind arith

pub any-insert_key : {K : Type 0} (R : K → K → Ordering) (t : K → Bool) (k : K) (ks : List K) → ((x : K) → R k x ≡ Equal → t x ≡ t k) → list_any t (insert_key R ks k) ≡ (t k || list_any t ks)
any-insert_key R t k [] same = refl
any-insert_key R t k (x ∷ ks) same = grind (arith, any-insert_key R t k ks same)
