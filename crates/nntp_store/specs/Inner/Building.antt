-- What a builder's calls do to its content: the first fault, or the content with what was handed in.
use Rattle.std.specs.Prelude.{◌≡◌, ℕ, Bool, true, false, not, ◌&&◌, if◌then◌else◌, List, Option, None, Some, is_some, is_none, Result, Ok, Err, refl}
use Rattle.std.specs.{List.{list_all}, Coded.{Coded, code_by, coded×, coded_bool}, Borrow.{Bor}, FinMap.{get}}
use Rattle.nntp_wire.specs.{Decided.{is_group_name, is_message_id}, declared.limit.Limit.{Limit}}
use Rattle.nntp_article.specs.{Inner.Coded.{coded_limit}, Session.{Spool.{Name, Spool, Text, numbers, is_line}, Machine.{is_article_number}}}
use Rattle.nntp_article.specs.Article.Parts.{Id}
use Rattle.nntp_content.specs.{Inner.Codes.{coded_spool}, Numbers.{has_id}, Content.{is_head_of, ids_have_articles}}
use Rattle.nntp_store.specs.{declared.value.spool_fault.SpoolFault.{SpoolFault}, Limited.{LimitedSpool}}
use Rattle.nntp_store.specs.declared.value.spool_fault.SpoolFault.TheVariants as faults

-- a builder's limit, its content, and whether it failed
pub record Building : Type 0 where
  pub limit : Limit
  pub spool : Spool
  pub failed : Bool

abbrev pub coded_building : Coded Building
coded_building = code_by _ (coded× coded_limit (coded× coded_spool coded_bool)) (λ b. (b.limit, (b.spool, b.failed))) (λ p. record { limit = p.0; spool = p.1.0; failed = p.1.1 }) (λ _. refl)

abbrev pub group_fault : Spool → Name → Option SpoolFault
group_fault S name =
    if not (is_group_name name) then Some faults.BadName
    else (if is_some (get S.groups name) then Some faults.DuplicateGroup else None)

abbrev pub number_fault : ℕ → Spool → Name → ℕ → Id → Option SpoolFault
number_fault limit S name n id =
    if is_none (get S.groups name) then Some faults.UnknownGroup
    else (if not (is_article_number limit n) then Some faults.BadNumber
    else (if not (is_message_id id) then Some faults.BadId
    else (if is_some (get (numbers S name) n) then Some faults.DuplicateNumber
    else (if has_id (numbers S name) id then Some faults.DuplicateId else None))))

-- why a number can't be added to a group, whatever ids it has
abbrev pub place_fault : ℕ → Spool → Name → ℕ → Id → Option SpoolFault
place_fault limit S name n id =
    if is_none (get S.groups name) then Some faults.UnknownGroup
    else (if not (is_article_number limit n) then Some faults.BadNumber
    else (if not (is_message_id id) then Some faults.BadId
    else (if is_some (get (numbers S name) n) then Some faults.DuplicateNumber else None)))

-- by whether the head and the body of an article are such as the id may have
abbrev pub parts_fault : Spool → Id → Bool → Bool → Option SpoolFault
parts_fault S id is_head is_body =
    if not is_head then Some faults.BadHead
    else (if not is_body then Some faults.BadBody
    else (if is_some (get S.articles id) then Some faults.DuplicateId else None))

abbrev pub article_fault : Spool → Id → Text → Option SpoolFault
article_fault S id text =
    if not (is_message_id id) then Some faults.BadId
    else parts_fault S id (list_all is_line text.head && is_head_of id text.head) (list_all is_line text.body)

-- the id as text, where there is no fault, and else the fault
abbrev pub Admits : Option SpoolFault → Id → Result (Bor (List ℕ)) SpoolFault → Type 0
Admits fault id (Ok text) = (fault ≡ None) × (text.now ≡ id)
Admits fault id (Err f) = fault ≡ Some f

-- the name and the id as text, where there is no fault, and else the fault
abbrev pub AdmitsBoth : Option SpoolFault → Name → Id → Result (Bor (List ℕ) × Bor (List ℕ)) SpoolFault → Type 0
AdmitsBoth fault name id (Ok texts) = (fault ≡ None) × (texts.0.now ≡ name) × (texts.1.now ≡ id)
AdmitsBoth fault name id (Err f) = fault ≡ Some f

-- what a builder gives when it is given up: its spool, or the fault that it has
abbrev pub finished : Building → Result LimitedSpool SpoolFault
finished b =
    if b.failed then Err faults.Failed
    else (if not (ids_have_articles b.spool) then Err faults.UnknownId else Ok (record { limit = b.limit; spool = b.spool }))

-- a call on a builder: it failed before; there is a fault; it is done; or memory was refused
abbrev pub BuildsBy : Bool → Option SpoolFault → Spool → Result (Unit {0}) SpoolFault → Building → Building → Type 0
BuildsBy true fault made r old new = (r ≡ Err faults.Failed) × (new ≡ old)
BuildsBy false (Some fault) made r old new = (r ≡ Err fault) × (new ≡ old)
BuildsBy false None made (Ok x) old new = new ≡ record old { spool = made }
BuildsBy false None made (Err e) old new = (e ≡ faults.Memory) × (new.failed ≡ true)

-- a call on a builder, where the fault, if there is one, and the new content are these
abbrev pub Builds : Option SpoolFault → Spool → Result (Unit {0}) SpoolFault → Building → Building → Type 0
Builds fault made r old new = BuildsBy old.failed fault made r old new
