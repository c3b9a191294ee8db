use Rattle.std.proofs.Common.{ℕ, List, ◌++◌, Option}
use Rattle.nntp_article.specs.{Article.Parts.{Id}, Session.Spool.{Spool}}
use Rattle.nntp_said.specs.Facts.{Fact}
use Rattle.nntp_witness.specs.Inner.{Witness.{HaveArticles, IsGivenSpool}, Making.{NumbersLeft}}
use Rattle.nntp_witness.proofs.maker.SpoolMaker.add_shown.Given as goal

-- the numbers that are left are those that the reader has left, and those behind them
abbrev pub invariant-loop-shown : goal.invariant-loop-shown
invariant-loop-shown g l =
    (said : List Fact) (G before : Spool) (behind : List Id) (left : List (ℕ × Option Id)) → HaveArticles l.facts said → IsGivenSpool l.facts.limit said G
    → NumbersLeft l.facts.limit said G before l.fn.name behind (l.fn.numbers ++ left) l.fn.self.builder l.fn.self.next
    → NumbersLeft l.facts.limit said G before l.fn.name behind (l.numbers ++ left) l.self.builder l.self.next
