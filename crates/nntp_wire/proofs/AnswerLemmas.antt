-- What a line and a block do not say, and what a frame says.
use Rattle.std.proofs.Common.{◌≡◌, ◌⊎◌, ℕ, List, refl, sym, ◌∙◌, ap, Option, None, Some, Bool, ◌≤◌, length, take, drop, arith, cond, length-append}
use Rattle.std.proofs.lemmas.{List.{append_cancel_right}, Bool.Decides.{nat_tests}}
use Rattle.nntp_wire.specs.{Number.{number_value}, declared.{answer.Answer.{Answer}, kind.Kind.{Kind}, water_marks.WaterMarks.{WaterMarks}}, Lines.{HasNoCrlf}}
use Rattle.nntp_wire.specs.{Block.{sent, dot_line}, Argument.{HasArticle, HasGroup}, Answer.{Asked, Response, numbers_are, sends, SaysGroup, SaysNumbers}}
use Rattle.nntp_wire.specs.Answer.{SaysArticle, SaysByLines, SaysActive, SaysOverviews, SaysIds, SaysCapabilities, SaysCode, Says, Spells, has_code, status_of}
use Rattle.nntp_wire.specs.{Answer.{kind_of, is_block_due, block_octets, IsCleanBlock}, Inner.AnswerView.{Answers, Reads, IsBlock, SendsBlock}}
use Rattle.nntp_wire.{specs.Frame.{frame_octets, framed, IsBeforeDotLine}, proofs.{SpellLemmas.{clean-line, status-clean, status-code}, FrameLemmas.{one_line}}}
use Rattle.nntp_wire.proofs.ResponseLemmas.{one-sent}

-- no group, no response
pub no-group : (bytes : List ℕ) → ((m : WaterMarks) (name : List ℕ) → ¬ (HasGroup bytes m name)) → (r : Response) → SaysGroup bytes r → ⊥
no-group bytes none r says = grind arith

pub no-numbers : (bytes : List ℕ) (lines : List (List ℕ)) → ((m : WaterMarks) (name : List ℕ) → ¬ (HasGroup bytes m name)) → (r : Response) → SaysNumbers bytes lines r → ⊥
no-numbers bytes lines none (numbers_are m name listed) says = none m name says.0
no-numbers bytes lines none r says = absurd says

-- no article, no response
pub no-article : (code : ℕ) (bytes : List ℕ) (block : Option (List (List ℕ))) → ((n : ℕ) (id : List ℕ) → ¬ (HasArticle bytes n id)) → (r : Response) → SaysArticle code bytes block r → ⊥
no-article code bytes block none (sends s) says = none s.number s.id says.1
no-article code bytes block none r says = absurd says

-- a line with a status has three octets
pub status-long : (asked : Asked) (line : List ℕ) (code : ℕ) → status_of asked line ≡ Some code → 3 ≤ length line
status-long asked line code e = at (has_code line) refl (status-code asked line code e) where
  at : (b : Bool) → has_code line ≡ b → cond b (Some (number_value (take 3 line))) None ≡ Some code → 3 ≤ length line
  at b is f = grind (arith, nat_tests)

-- octets send one block
one-block-sent : (bytes : Option (List ℕ)) (b c : Option (List (List ℕ))) → SendsBlock bytes b → SendsBlock bytes c → b ≡ c
one-block-sent bytes b c p q = grind (arith, one-sent)

-- what the octets behind a code and a block say, the line and the block say
pub reads-from : (answer : Option Answer) (asked : Asked) (line bytes : List ℕ) (sent : Option (List ℕ)) (code : ℕ) (kind : Kind) (block : Option (List (List ℕ)))
    → status_of asked line ≡ Some code → IsBlock sent (is_block_due asked code) block → bytes ≡ drop 3 line → kind ≡ kind_of asked code
    → Answers answer (Says kind code bytes block) → Answers answer (Reads asked line sent)
reads-from None asked line bytes sent code kind block status is_block bytes_are kind_is says =
    λ r reads.
    let both : Some code ≡ Some reads.code = sym status ∙ reads.status in
    let same : reads.code ≡ code = cc in
    let blocks : reads.block ≡ block = one-block-sent sent reads.block block reads.is_block.sends is_block.sends in
    says r (rw (bytes_are, kind_is, ← same, ← blocks) reads.says)
reads-from (Some answer) asked line bytes sent code kind block status is_block bytes_are kind_is says = grind arith

-- a frame spells what its line and its block say
pub reads-spells : (asked : Asked) (line : List ℕ) (sent : Option (List ℕ)) (r : Response) → Reads asked line sent r → Spells asked r (frame_octets line sent)
reads-spells asked line sent r reads = grind arith

-- a block between an initial line and a dot line sends what is spelled
block-sends : (sent : Option (List ℕ)) (block : Option (List (List ℕ))) → IsBeforeDotLine sent → IsCleanBlock block → framed sent ≡ block_octets block → SendsBlock sent block
block-sends None None up clean e = tt
block-sends None (Some ls) up clean e = absurd (omega (arith, ap length e, length-append (sent ls) dot_line))
block-sends (Some x) None up clean e = absurd (omega (arith, ap length e, length-append x dot_line))
block-sends (Some x) (Some ls) up clean e = record { clean = clean; whole = append_cancel_right x (sent ls) dot_line e }

pub spells-reads : (asked : Asked) (line : List ℕ) (sent : Option (List ℕ)) (r : Response) → HasNoCrlf line → IsBeforeDotLine sent → Spells asked r (frame_octets line sent) → Reads asked line sent r
spells-reads asked line sent r is_line up s =
    let both = one_line line s.line (framed sent) (block_octets s.block) is_line (clean-line s.line (status-clean asked s.line s.code s.status)) s.whole in
    grind (arith, block-sends)

-- octets and a block say a response in one of eight ways
pub says-ways : (kind : Kind) (code : ℕ) (bytes : List ℕ) (block : Option (List (List ℕ))) (r : Response) → Says kind code bytes block r
    → SaysGroup bytes r ⊎ (SaysByLines (SaysNumbers bytes) block r
    ⊎ (SaysArticle code bytes block r ⊎ (SaysByLines SaysActive block r
    ⊎ (SaysByLines SaysOverviews block r ⊎ (SaysByLines SaysIds block r
    ⊎ (SaysByLines (SaysCapabilities code) block r ⊎ SaysCode code r))))))
says-ways kind code bytes block r s = grind arith
