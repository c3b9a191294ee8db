use Rattle.std.{proofs.Common.{arith, ◌≡◌, ◌⊎◌, inl, inr, ℕ, Bool, Option, None, Some}, specs.Prelude.{◌&&◌, if◌then◌else◌}}
use Rattle.nntp_store.proofs.text.fields.article_opening.Goals.{in_default-via-in-Some+in_default, in_default-via-in_default}
use Rattle.nntp_store.proofs.text.fields.article_opening.Goals as goal

-- nothing begins where one of two counts is none
no_count : {X : Type 0} (begins heads bodies : Bool) (n m : ℕ) (h b : Option ℕ) (x : X) → h ≡ (if heads then Some n else None) → b ≡ (if bodies then Some m else None)
    → (h ≡ None) ⊎ (b ≡ None) → None ≡ (if begins && heads && bodies then Some x else None)
no_count begins heads bodies n m h b x first second either = grind arith

pub returns-in_default : goal.returns-in_default
returns-in_default c = no_count _ _ _ _ _ _ _ _ c.count_of.ensures c.count_of-2.ensures
    (elim c.in_default.branch [ in_default-via-in-Some+in_default w ↦ inr w.in_default.is-1 | in_default-via-in_default w ↦ inl w.in_default.is-0 ])
