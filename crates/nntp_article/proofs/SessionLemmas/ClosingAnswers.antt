-- A run closes the connection with its last answer, if at all (RFC 3977, sections 3.2.1, 5.1, 5.3 and 5.4).
use Rattle.std.proofs.Common.{◌≡◌, false, List, [], ◌∷◌, sym, ap, ◌∙◌, rules}
use Rattle.nntp_wire.specs.{Answer.{Asked, Response}, Session.{closes}, Inner.Session.{StaysOpen}}
use Rattle.nntp_article.specs.{Session.{Spool.{Spool}, Machine.{State, Visible, visible_after, Run}}, declared.session.profile.Profile.{Profile}}

-- an open connection is closed by an answer that closes
pub after-closes : (v : Visible) (asked : Asked) (response : Response) → v.closed ≡ false → (visible_after v asked response).closed ≡ closes asked response
after-closes v asked response e = search rules

-- a run goes on where the connection is open
goes-on-open : (profile : Profile) (S : Spool) (s : State) (prompts : List Asked) (answer : Response) (more : List Response) → Run profile S s prompts (answer ∷ more) → s.visible.closed ≡ false
goes-on-open profile S s prompts answer more run = search rules

-- so no answer of it but the last closes the connection
pub run-stays-open : (profile : Profile) (S : Spool) (s : State) (prompts : List Asked) (answers : List Response) → Run profile S s prompts answers → StaysOpen prompts answers
run-stays-open profile S s prompts [] run = tt
run-stays-open profile S s prompts (answer ∷ []) run = tt
run-stays-open profile S s [] (answer ∷ next ∷ more) run = tt
run-stays-open profile S s (asked ∷ prompts) (answer ∷ next ∷ more) (new, permits, run) =
    let left : new.visible.closed ≡ (visible_after s.visible asked answer).closed = ap (λ t. t.visible.closed) permits.leads in (
      sym (after-closes s.visible asked answer permits.may.is_open) ∙ sym left ∙ goes-on-open profile S new prompts next more run,
      run-stays-open profile S new prompts (next ∷ more) run,
    )
