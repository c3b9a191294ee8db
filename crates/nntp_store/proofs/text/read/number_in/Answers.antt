use Rattle.std.{proofs.Common.{arith, ◌≡◌, refl, sym, ℕ, Bool, true, false, List, None, Some, Ok}, specs.Prelude.{if◌then◌else◌}}
use Rattle.nntp_wire.specs.Decided.{is_message_id}
use Rattle.nntp_article.specs.Session.Machine.{is_article_number}
use Rattle.nntp_store.specs.{Fields.{fields_of, number_and_id, value_of}, Reading.{number_in}, declared.text.read_fault.ReadError.{ReadError}}
use Rattle.nntp_store.specs.Inner.Reading.{Fails}
use Rattle.nntp_store.specs.declared.text.read_fault.ReadError.TheVariants as errors
use Rattle.nntp_store.specs.declared.text.read_fault.Kind.TheVariants as kinds
use Rattle.nntp_store.proofs.text.read.number_in.Goals as goal

passed : (is : Bool) (value number : ℕ) → Some number ≡ (if is then Some value else None) → (is ≡ true) × (value ≡ number)
passed is value number e = grind arith

-- the number and the id of a line are read where both are right
both : (limit at value number : ℕ) (line id said : List ℕ) → Some (value, id) ≡ number_and_id (fields_of line) → Some number ≡ (if is_article_number limit value then Some value else None)
    → is_message_id id ≡ true → said ≡ id → number_in limit at line ≡ Ok (number, said)
unfolding number_in
both limit at value number line id said has is is_id same =
    let passes = passed (is_article_number limit value) value number is in
    rw (← has, passes.0, is_id) (λ i. Ok (passes.1 i, sym same i))

-- and they are not where the number is none of a group
other : (limit at value : ℕ) (line id : List ℕ) (e : ReadError) → Some (value, id) ≡ number_and_id (fields_of line) → None ≡ (if is_article_number limit value then Some value else None)
    → e ≡ errors.Fault (record { line = at; kind = kinds.Number }) → Fails e (number_in limit at line)
unfolding number_in
other limit at value line id e has none is =
    let fails : is_article_number limit value ≡ false = grind arith in
    rw (is, ← has, fails) refl

pub returns : goal.returns
returns c =
    both c.args.limit c.args.at (value_of c.in-Some.line.digits.now) c.in-Some-article_number.number c.args.line.now c.in-Some.line.id.now c.in-Some-id_of.id.now c.in-Some.ensures
    c.in-Some-article_number.ensures c.in-Some-id_of.ensures.0 c.in-Some-id_of.ensures.1

pub returns-in_default-article_number : goal.returns-in_default-article_number
returns-in_default-article_number c =
    other c.args.limit c.args.at _ c.args.line.now _ _ c.in-Some.ensures c.in_default-article_number.ensures c.fault-in_default-article_number.ensures
