-- What a reason why a frame spells nothing names is wrong.
use Rattle.std.proofs.Common.{◌≡◌, ℕ, suc, ◌+◌, Bool, true, false, not, List, [], ◌∷◌, length, drop, Option, None, Some, MatchOption, refl, sym, subst, arith}
use Rattle.std.{proofs.lemmas.Option.{IfSome_then}, specs.Prelude.{slice_get, is_some, option_map, IfSome}}
use Rattle.nntp_wire.specs.{Octets.{is_clean}, Lines.{lines_of_stream}, Block.{unstuffed}, Answer.{Asked, code_of, is_fitting, kind_of, is_block_due}}
use Rattle.nntp_wire.specs.Misspelling.{arguments_of, dues, is_argument, argument_misspelling, listing_fault, line_fault, kind_behind, line_misspelling}
use Rattle.nntp_wire.specs.Misspelling.{lines_misspelling, block_misspelling, misspelling_behind, code_misspelling, misspelling}
use Rattle.nntp_wire.specs.{Inner.Misspelling.{IsWrongArgument, has_fault, IsWrongLine}, declared.kind.Kind.{Kind, TheVariants.{Overview, Capabilities}}}
use Rattle.nntp_wire.specs.declared.misspelling.Misspelling.{Misspelling, TheVariants.{WrongOctet, TooLong, NoCode, WrongArgument, WrongLine, WrongBlock}}
use Rattle.nntp_wire.{specs.declared.misspelling.{Due.{Due}, LineFault.{LineFault, TheVariants.{NoVersions}}}, proofs.Reasons.{so_unless, so_first, so_two}}

-- ---- arguments

-- the reason names an argument that isn't what is due, where they are counted from this place on
record NamesArgument (from : ℕ) (later : List Due) (words : List (List ℕ)) (why : Misspelling) : Type 0 where
  place : ℕ
  due : Due
  is : why ≡ WrongArgument place due
  index : ℕ
  counted : place ≡ from + index
  is_due : slice_get later index ≡ Some due
  is_other : IfSome (slice_get words index) (λ word. is_argument due word ≡ false)

so_arguments : (from : ℕ) (later : List Due) (words : List (List ℕ)) → IfSome (argument_misspelling from later words) (NamesArgument from later words)
so_arguments from [] words = tt
so_arguments from (due ∷ later) [] = record { place = from; due = due; is = refl; index = 0; counted = omega arith; is_due = refl; is_other = tt }
so_arguments from (due ∷ later) (word ∷ words) = so_two (NamesArgument from (due ∷ later) (word ∷ words)) _ _ (grind arith) (IfSome_then _ (so_arguments (from + 1) later words) behind)
  where
    behind : (why : Misspelling) → NamesArgument (from + 1) later words why → NamesArgument from (due ∷ later) (word ∷ words) why
    behind why n =
        record { place = n.place; due = n.due; is = n.is; index = suc n.index; counted = (let c = n.counted in omega arith); is_due = n.is_due; is_other = n.is_other }

-- ---- lines

-- the line has this fault
abbrev HasFault : List ℕ → LineFault → Type 0
HasFault line fault = has_fault fault line ≡ true

so_listing : (kind : Kind) (line : List ℕ) → IfSome (listing_fault kind (unstuffed line)) (HasFault line)
so_listing Overview line = so_two (HasFault line) _ _ (grind arith) (grind arith)
so_listing kind line = grind arith

so_fault : (kind : Kind) (line : List ℕ) → IfSome (line_fault kind line) (HasFault line)
so_fault kind line = grind (arith, so_first, so_unless, so_listing)

-- the reason names a line that has this fault, where they are counted from this place on
record NamesLine (from : ℕ) (lines : List (List ℕ)) (why : Misspelling) : Type 0 where
  place : ℕ
  fault : LineFault
  is : why ≡ WrongLine place fault
  index : ℕ
  counted : place ≡ from + index
  is_wrong : MatchOption (slice_get lines index) ⊥ (λ line. has_fault fault line ≡ true)

mapped : {A B : Type 0} (f : A → B) (o : Option A) (Q : B → Type 0) → IfSome o (λ x. Q (f x)) → IfSome (option_map f o) Q
mapped f o Q h = grind arith

so_lines : (kind : Kind) (from : ℕ) (lines : List (List ℕ)) → IfSome (line_misspelling kind from lines) (NamesLine from lines)
so_lines kind from [] = tt
so_lines kind from (line ∷ lines) =
    so_two (NamesLine from (line ∷ lines)) _ _ (mapped (WrongLine from) (line_fault kind line) _ (IfSome_then _ (so_fault kind line) here))
    (IfSome_then _ (so_lines (kind_behind kind) (from + 1) lines) behind)
  where
    here : (fault : LineFault) → has_fault fault line ≡ true → NamesLine from (line ∷ lines) (WrongLine from fault)
    here fault is = record { place = from; fault = fault; is = refl; index = 0; counted = omega arith; is_wrong = is }

    behind : (why : Misspelling) → NamesLine (from + 1) lines why → NamesLine from (line ∷ lines) why
    behind why n = record { place = n.place; fault = n.fault; is = n.is; index = suc n.index; counted = (let c = n.counted in omega arith); is_wrong = n.is_wrong }

-- ---- each reason

-- what the reason names is wrong
abbrev pub Tells : Asked → List ℕ → Option (List ℕ) → Misspelling → Type 0
Tells asked line bytes WrongOctet = is_clean line ≡ false
Tells asked line bytes (TooLong n) = (n ≡ length line + 2) × (is_fitting asked (length line) ≡ false)
Tells asked line bytes NoCode = code_of line ≡ None
Tells asked line bytes (WrongArgument place due) = MatchOption (code_of line) ⊥ (λ code. IsWrongArgument (dues (kind_of asked code)) (arguments_of (drop 3 line)) place due)
Tells asked line bytes (WrongLine place fault) = MatchOption bytes ⊥ (λ octets. IsWrongLine (lines_of_stream octets) place fault)
Tells asked line bytes WrongBlock = MatchOption (code_of line) ⊥ (λ code. is_some bytes ≡ not (is_block_due asked code))

-- the reason is one of a line, in the words of the law
abbrev OfLine : List (List ℕ) → Misspelling → Type 0
OfLine lines why = (place : ℕ) × (fault : LineFault) × (why ≡ WrongLine place fault) × IsWrongLine lines place fault

line_told : (kind : Kind) (lines : List (List ℕ)) → IfSome (line_misspelling kind 1 lines) (OfLine lines)
line_told kind lines = IfSome_then _ (so_lines kind 1 lines) (λ why n. let told : OfLine lines why = grind arith in told)

so_all : (kind : Kind) (lines : List (List ℕ)) → IfSome (lines_misspelling kind lines) (OfLine lines)
so_all Capabilities [] = (1, NoVersions, refl, record { index = 0; counted = refl; is_wrong = (refl, refl) })
so_all kind lines = line_told kind lines

so_block : (asked : Asked) (line : List ℕ) (code : ℕ) (is : code_of line ≡ Some code) (is_due : Bool) → is_due ≡ is_block_due asked code → (bytes : Option (List ℕ))
    → IfSome (block_misspelling (kind_of asked code) is_due bytes) (Tells asked line bytes)
so_block asked line code is true due (Some bytes) =
    IfSome_then (lines_misspelling (kind_of asked code) (lines_of_stream bytes)) (so_all (kind_of asked code) (lines_of_stream bytes))
    (λ why o. subst (Tells asked line (Some bytes)) (sym o.2) o.3)
so_block asked line code is is_due due bytes = grind arith

so_behind : (asked : Asked) (line : List ℕ) (bytes : Option (List ℕ)) (code : ℕ) → code_of line ≡ Some code
    → IfSome (misspelling_behind (kind_of asked code) (is_block_due asked code) (drop 3 line) bytes) (Tells asked line bytes)
so_behind asked line bytes code is =
    so_two (Tells asked line bytes) _ _ (IfSome_then _ (so_arguments 1 (dues (kind_of asked code)) (arguments_of (drop 3 line))) (λ why n. let told : Tells asked line bytes why = grind arith in told))
    (so_block asked line code is (is_block_due asked code) refl bytes)

so_code : (asked : Asked) (line : List ℕ) (bytes : Option (List ℕ)) (o : Option ℕ) → code_of line ≡ o → IfSome (code_misspelling asked line bytes o) (Tells asked line bytes)
so_code asked line bytes o is = grind (arith, so_behind)

tells : (asked : Asked) (line : List ℕ) (bytes : Option (List ℕ)) → IfSome (misspelling asked line bytes) (Tells asked line bytes)
tells asked line bytes = grind (arith, so_first, so_unless, so_code)

pub so : (asked : Asked) (line : List ℕ) (bytes : Option (List ℕ)) (why : Misspelling) → misspelling asked line bytes ≡ Some why → Tells asked line bytes why
so asked line bytes why e = subst (λ o. IfSome o (Tells asked line bytes)) e (tells asked line bytes)
