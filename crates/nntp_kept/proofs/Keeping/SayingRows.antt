-- What each kind of answer that fits tells.
use Rattle.nntp_kept.proofs.Base.{◌≡◌, ℕ, ◌<◌, ◌^◌, get_or, true, IsTrue, List, [], ◌∷◌, Option, None, Some, is_some, inl, inr, refl, sym, ap, subst, ◌∙◌}
use Rattle.nntp_kept.proofs.Base.{arith, true≢false, and_parts, eqb-true, leb-true, list_all, IfSome, Id, Name, Visible, fits, overview_numbers, only}
use Rattle.nntp_kept.proofs.Base.{names_differ, Profile, numbers_of, Lists, Asked, Response, Marks, Range, ActiveValue, OverviewValue, active_groups}
use Rattle.nntp_kept.proofs.Base.{overviews_of, Position, Ask, Estimates, ListsIn, Fact, ThereIs, Asks, FieldsAre, here, facts_of, group_of, Says, AreBounded}
use Rattle.nntp_kept.proofs.Base.{all_from, each_of, found_in, AreListed, Saying, nothing, saying_by, asked_id, id_facts, HaveOwn, MayList, nat_le, ◌≤◌}
use Rattle.nntp_kept.{proofs.Base.{is_article_number, active_fits, lists_of}, specs.Inner.Saying.{TellsHere, IsSelectedShown, IsShownThen, numbers_shown}}
use Rattle.nntp_numbers.{specs.Inner.{Part.{Said, AreListable}, PartOf.{IsSmall, nothing_said, part_with}}, proofs.SaidInARange.{says_range, says_listed}}
use Rattle.nntp_numbers.proofs.SaidOfAsks.{said_small, says_marks, marks_bounded, says_has, says_lacks, says_stands, says_nowhere, says_up, says_down, says_top}
use Rattle.nntp_numbers.proofs.SaidOfAsks.{says_bottom}
use Rattle.nntp_said.specs.{Facts.{IdAt}, Asks.{Lacks, StandsAt, StandsNowhere, StepsUp, StepsDown, IsTop, IsBottom}}
use Rattle.nntp_wire.specs.{Answer.{overviews_are}, declared.water_marks.WaterMarks.{WaterMarks}, Listing.{listed_numbers}}
use Rattle.nntp_kept.specs.declared.saying.Saying as parts
use Rattle.nntp_kept.specs.Inner.SayingView as view
use Rattle.nntp_said.proofs.Rows as rows

-- ---- sayings

-- something of the numbers of a group, and that there is such a group
abbrev pub of_group : Name → Said → Saying
of_group name p = record { there_is = Some name; there_is_no = None; group = Some (record { name = name; numbers = p; id = None }); article = None; overviews = None; groups = None }

-- the ends of what is said of the numbers of the group are below 2^64
abbrev HasSmall : Saying → Type 0
HasSmall s = IfSome s.group (λ g. IsSmall g.numbers)

-- a group that is selected
pub tells_marks : {selected : Name} → (facts : List Fact) (name : Name) (p : Said) (how : Marks) (m : WaterMarks) (s : Saying) (more : List Fact)
    → Says p (Estimates how m ∷ []) → AreBounded (Estimates how m ∷ []) → s ≡ of_group name p
    → (ThereIs name ∷ Asks name (Estimates how m) ∷ []) ≡ more → TellsHere selected facts s more
tells_marks {selected} facts name p how m s more says bounded s_is same =
    subst (λ s. TellsHere selected facts s more) (sym s_is)
    (record {
      tells = record {
        asks = Estimates how m ∷ [];
        same = same;
        may = record { numbers = says; shown = inr (refl, bounded); there = refl; placed = tt; article = tt; overviews = tt; groups = tt };
      };
      group = ap group_of same;
      there = inl refl;
    })

-- ---- what is known of an answer that fits

-- an article number is no 0
numbered : (profile : Profile) (n : ℕ) → is_article_number profile.limit n ≡ true → 1 ≤ n
numbered profile n is = leb-true 1 n (and_parts (nat_le 1 n) (nat_le n profile.limit) is).0

-- numbers that ascend in the range
listable : (profile : Profile) (r : Range) (ns : List ℕ) → rows.AreListed profile r ns → AreListable r ns
listable profile r ns is = grind (arith, found_in, and_parts, each_of, eqb-true, numbered)

-- groups that match, and of which none is listed twice
may_list : (profile : Profile) (p : Option (List ℕ)) (lines : List ActiveValue) → IsTrue (list_all (active_fits profile p) lines) → IsTrue (names_differ lines) → MayList p lines
may_list profile p lines each differ = grind (arith, all_from, and_parts, each_of)

-- ---- rows

pub lists_said : (profile : Profile) (v : Visible) (at : Position) (asked : Asked) (response : Response) (shown : List ℕ) (lists : Lists) → lists ≡ lists_of response
    → AreListed (saying_by shown nothing (facts_of profile.marks v at asked response)) lists
lists_said profile v at asked response shown lists e = grind (arith, rows.row)

-- the number that the only overview shows is its own
number_told : (lines : List (List ℕ)) (o : OverviewValue) → only (overviews_of lines) ≡ Some o → numbers_shown (numbers_of (overviews_are lines)) (overviews_are lines) ≡ o.number ∷ []
number_told lines o e = grind (arith, e)

module _ (v : Visible) (facts : List Fact) (is_shown : IsSelectedShown v facts) where
  -- what is said by facts of an answer that shows these numbers, if all numbers are below 2^64, tells them
  abbrev Row : List ℕ → List Fact → Type 0
  Row shown more = HasSmall (saying_by shown nothing more) → TellsHere (here v) facts (saying_by shown nothing more) more

  -- the selected group was shown
  here_shown : (asks : List Ask) → IsTrue (is_some v.selected) → IsShownThen facts None asks (here v)
  here_shown asks there = inl (grind (arith, there, is_shown, true≢false))

  -- one ask of the selected group, and the id at a number of it, if one is shown
  ask_row : (shown : List ℕ) (ask : Ask) (id : Option (ℕ × Id)) → IsTrue (is_some v.selected)
      → (IsSmall (part_with shown ask nothing_said) → Says (part_with shown ask nothing_said) (ask ∷ asked_id id)) → Row shown (Asks (here v) ask ∷ id_facts (here v) id)
  ask_row shown ask None there says small = record { tells = record { asks = ask ∷ []; same = refl; may = assumption (says small, here_shown (ask ∷ []) there) }; group = refl; there = inr refl }
  ask_row shown ask (Some e) there says small =
      record { tells = record { asks = ask ∷ []; same = refl; may = assumption (says small, here_shown (ask ∷ []) there) }; group = refl; there = inr refl }

  -- a group that is selected, with its numbers
  list_row : (how : Marks) (name : Name) (m : WaterMarks) (r : Range) (ns : List ℕ) → ((i : ℕ) → get_or ns i 0 < 2 ^ 64) → AreListable r ns
      → Row ns (ThereIs name ∷ Asks name (Estimates how m) ∷ Asks name (ListsIn r ns) ∷ [])
  list_row how name m r ns fits may small =
      let says = says_range how m r ns fits small may in
      record { tells = record { asks = Estimates how m ∷ ListsIn r ns ∷ []; same = refl; may = grind (arith, marks_bounded, says) }; group = refl; there = inl refl }

  -- a row of the table whose condition holds
  said_row : {profile : Profile} {at : Position} {Fits : Type 0} {a : Response} {more : List Fact} → ((i : ℕ) → get_or (numbers_of a) i 0 < 2 ^ 64)
      → rows.Row profile v at Fits a more → Fits → Row (numbers_shown (numbers_of a) a) more
  said_row {at = at} fit (rows.nowhere code known) f small = ask_row [] (StandsNowhere at) None (known f) (λ _. says_nowhere [] at) small
  said_row {at = at} fit (rows.top code known) f small = ask_row [] (IsTop at) None (known f) (λ small. says_top [] at small.high) small
  said_row {at = at} fit (rows.bottom code known) f small = ask_row [] (IsBottom at) None (known f) (λ _. says_bottom [] at) small
  said_row {profile} fit (rows.none_within code range known) f small =
      ask_row [] (ListsIn range []) None (known f) (λ small. says_listed range [] fit small (listable profile range [] (refl, refl))) small
  said_row {profile} fit (rows.within range lines known) f small =
      let os = overviews_of lines in
      let asks = ListsIn range (overview_numbers os) ∷ [] in
      let says = says_listed range (overview_numbers os) fit small (listable profile range (overview_numbers os) (known f).1) in
      let own : HaveOwn os = record { numbers = (known f).1.0; ids = (known f).2 } in
      record { tells = record { asks = asks; same = refl; may = assumption (says, here_shown asks (known f).0, own) }; group = refl; there = inr refl }
  said_row fit (rows.lacks code n known) f small = ask_row [] (Lacks n) None (known f) (λ small. says_lacks [] n small.last) small
  said_row {profile} fit (rows.marks m name known) f small =
      tells_marks facts name _ profile.marks m _ _ (says_marks [] profile.marks m small.high) (marks_bounded profile.marks m small.high) refl refl
  said_row {profile} fit (rows.listing m name range lines known) f small =
      list_row profile.marks name m range (listed_numbers lines) fit (listable profile range (listed_numbers lines) (known f).1) small
  said_row {profile} {at} fit (rows.up s known) f small =
      ask_row (s.number ∷ []) (StepsUp at s.number) (Some (s.number, s.id)) (known f).0 (λ small. says_up at s.number small (numbered profile s.number (known f).1)) small
  said_row {profile} {at} fit (rows.down s known) f small =
      ask_row (s.number ∷ []) (StepsDown at s.number) (Some (s.number, s.id)) (known f).0 (λ small. says_down at s.number small (numbered profile s.number (known f).1)) small
  said_row fit (rows.text what s known) f small = record { tells = record { asks = []; same = refl; may = assumption (known f) }; group = refl; there = tt }
  said_row {profile} fit (rows.text_at what s known) f small =
      let says = says_has s.number small.last (numbered profile s.number (known f).1.1) in
      record { tells = record { asks = []; same = refl; may = assumption (says, here_shown [] (known f).1.0, (known f).0) }; group = refl; there = inr refl }
  said_row {profile} {at} fit (rows.text_here what s known) f small =
      let asks = StandsAt at s.number ∷ [] in
      let stands = says_stands at s.number small (numbered profile s.number (known f).1.1) in
      record { tells = record { asks = asks; same = refl; may = assumption (stands, here_shown asks (known f).1.0, (known f).0) }; group = refl; there = inr refl }
  said_row {profile} fit (rows.overview_at lines o e known) f small =
      subst (λ shown. Row shown (FieldsAre (o ∷ []) ∷ IdAt (here v) o.number o.id ∷ [])) (sym (number_told lines o e))
      (λ small. let says = says_has o.number small.last (numbered profile o.number (known f).1) in
      record { tells = record { asks = []; same = refl; may = assumption (says, here_shown [] (known f).0) }; group = refl; there = inr refl }) small
  said_row {profile} {at} fit (rows.overview_here lines o e known) f small =
      subst (λ shown. Row shown (FieldsAre (o ∷ []) ∷ Asks (here v) (StandsAt at o.number) ∷ IdAt (here v) o.number o.id ∷ [])) (sym (number_told lines o e))
      (λ small. let asks = StandsAt at o.number ∷ [] in let stands = says_stands at o.number small (numbered profile o.number (known f).1) in
      record { tells = record { asks = asks; same = refl; may = assumption (stands, here_shown asks (known f).0) }; group = refl; there = inr refl }) small
  said_row {profile} fit (rows.active p lines known) f small =
      record { tells = record { asks = []; same = refl; may = assumption (may_list profile p (active_groups lines) (known f).0 (known f).1) }; group = refl; there = tt }
  said_row fit r f small = record { tells = record { asks = []; same = refl; may = assumption }; group = refl; there = tt }

-- what the facts of an answer that fits say, of which this is the group that is selected, tells them
pub told_here : (how : Marks) (at : Position) (asked : Asked) (response : Response) (selected : Name) (listed shown : List ℕ) (more : List Fact) (saying : parts.Saying)
    → ((i : ℕ) → get_or listed i 0 < 2 ^ 64) → shown ≡ numbers_shown listed response → view.saying_of saying ≡ saying_by shown nothing more
    → ((v : Visible) → selected ≡ here v → more ≡ facts_of how v at asked response)
    → (profile : Profile) (v : Visible) (facts : List Fact) → IsTrue (fits profile v asked response) → IsSelectedShown v facts → selected ≡ here v → listed ≡ numbers_of response
    → TellsHere selected facts (view.saying_of saying) (facts_of how v at asked response)
told_here how at asked response selected listed shown more saying fit shows says said profile v facts may is_shown here_is listed_is =
    let same = said v here_is in
    let made : view.saying_of saying ≡ saying_by (numbers_shown listed response) nothing (facts_of how v at asked response) = says ∙ (λ i. saying_by (shows i) nothing (same i)) in
    let told = subst (λ ns. Row v facts is_shown (numbers_shown ns response) (facts_of how v at asked response)) (sym listed_is)
    (said_row v facts is_shown (subst (λ ns. (i : ℕ) → get_or ns i 0 < 2 ^ 64) listed_is fit) (rows.row (record profile { marks = how }) v at asked response) may)
    (subst HasSmall made (grind (arith, said_small))) in
    subst (λ s. TellsHere selected facts s (facts_of how v at asked response)) (sym made)
    (subst (λ name. TellsHere name facts (saying_by (numbers_shown listed response) nothing (facts_of how v at asked response)) (facts_of how v at asked response)) (sym here_is) told)
