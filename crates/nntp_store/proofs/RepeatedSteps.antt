-- A loop that takes one step of a reading in each turn.
use Rattle.std.proofs.Common.{◌≡◌, ℕ, suc, Bool, ◌-◌, ◌+◌, ◌<◌, ◌≤◌, Result, Ok, arith, refl}
use Rattle.nntp_store.specs.{declared.text.read_fault.{ReadFault.{ReadFault}, ReadError.{ReadError}}, Inner.Reading.{Fails}, Reading.{repeat, Place, On, Done}}
use Rattle.nntp_store.specs.Reading.{item_at, items_at}
use Rattle.nntp_article.specs.Session.Spool.{Spool}

module _ {S : Type 0} (step : S → Result S ReadFault) where
  pub begins : (count : ℕ) (s t : S) → s ≡ t → repeat step (count - 0) s ≡ repeat step count t
  begins count s t same =
      let k : count - 0 ≡ count = omega arith in
      rw (k, same) refl

  pub goes_on : (count i : ℕ) (s t : S) (total : Result S ReadFault) → i < count → step s ≡ Ok t → repeat step (count - i) s ≡ total → repeat step (count - (i + 1)) t ≡ total
  goes_on count i s t total lt one so_far =
      let k : count - i ≡ suc (count - (i + 1)) = omega arith in
      grind arith

  pub is_done : (count i : ℕ) (s : S) (total : Result S ReadFault) → count ≤ i → repeat step (count - i) s ≡ total → total ≡ Ok s
  is_done count i s total done so_far =
      let k : count - i ≡ 0 = omega arith in
      grind arith

  pub ends : (e : ReadError) (count i : ℕ) (s : S) (total : Result S ReadFault) → i < count → Fails e (step s) → repeat step (count - i) s ≡ total → Fails e total
  ends e count i s total lt h so_far = grind arith

-- ---- the same for items, which may end

module _ (limit most i : ℕ) (articles : Bool) (S : Spool) (p : Place) (total : Result (Spool × Place) ReadFault) where
  pub item_goes_on : (behind : Bool) (next : Spool) (q : Place) → i < most → item_at limit articles S p ≡ Ok (On behind next q) → items_at limit (most - i) articles S p ≡ total
      → items_at limit (most - (i + 1)) behind next q ≡ total
  item_goes_on behind next q lt one so_far =
      let k : most - i ≡ suc (most - (i + 1)) = omega arith in
      grind arith

  pub item_ends : (next : Spool) (q : Place) → i < most → item_at limit articles S p ≡ Ok (Done next q) → items_at limit (most - i) articles S p ≡ total → total ≡ Ok (next, q)
  item_ends next q lt one so_far = grind arith

  pub item_fails : (e : ReadError) → i < most → Fails e (item_at limit articles S p) → items_at limit (most - i) articles S p ≡ total → Fails e total
  item_fails e lt h so_far = grind arith
