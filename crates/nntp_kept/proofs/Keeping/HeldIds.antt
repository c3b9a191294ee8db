-- An id that is held beside maps of ids.
use Rattle.nntp_kept.proofs.Base.{◌≡◌, ℕ, Option, None, Some, refl, arith, option_or, FinMap, get, get-insert, nat_cmp, nat_cmp_total, slice_cmp}
use Rattle.nntp_kept.proofs.{Base.{nat_list_cmp_total, Id, ids_with, places_with, id_of, place_of}, Keeping.FactsOfOneGroup.{flip_number}}
use Rattle.nntp_kept_articles.proofs.TextKeys.{flip_text}

-- what is found at a number is the id that is held, if that is there, or else what the map has
pub id_beside : (ids : FinMap nat_cmp Id) (held : Option (ℕ × Id)) (n : ℕ) → get (ids_with ids held) n ≡ option_or (id_of held n) (get ids n)
id_beside ids None n = refl
id_beside ids (Some e) n = grind (arith, get-insert nat_cmp_total ids e.0 e.1 n, flip_number n e.0)

-- the number of an id likewise
pub place_beside : (places : FinMap (slice_cmp nat_cmp) ℕ) (held : Option (ℕ × Id)) (id : Id) → get (places_with places held) id ≡ option_or (place_of held id) (get places id)
place_beside places None id = refl
place_beside places (Some e) id = grind (arith, get-insert nat_list_cmp_total places e.1 e.0 id, flip_text id e.1)
