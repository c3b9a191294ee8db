-- What a contract sees of a `BufferedOutput`.
use Rattle.std.specs.{Prelude.{◌≡◌, ℕ, Bool, List, [], ◌++◌, ◌||◌, Option, Some, None, Result, is_err}, Borrow.{MutBor}, Fn.{Mut, Called}}
use Rattle.nntp_store.specs.{Watched.{inner_of}, Inner.{Watched.{has_failed_of}, Writing.{WritesBut}}, declared.buffered_output.BufferedOutput.{BufferedOutput}}
use Rattle.nntp_store.specs.declared.output.WriteFault.{WriteFault}

-- what the writer has, by the octets that a writer tells
abbrev pub taken : {W : Type 0} → (W → Option (List ℕ)) → BufferedOutput W → Option (List ℕ)
taken octets output = octets (inner_of output.writer.now)

-- the octets that the writer is still to take
abbrev pub waiting : {W : Type 0} → BufferedOutput W → List ℕ
waiting output = output.waiting.items

-- a call on the writer failed
abbrev pub writer_failed : {W : Type 0} → BufferedOutput W → Bool
writer_failed output = has_failed_of output.writer.now

-- both hand octets to the same writer
abbrev pub IsSameWriter : {W : Type 0} → BufferedOutput W → BufferedOutput W → Type 0
IsSameWriter old new = new.writer.ghost_name ≡ old.writer.ghost_name

-- of what waited and these octets the writer took all but what waits now, or after a fault a front
abbrev pub Buffers : {W A E : Type 0} → (W → Option (List ℕ)) → Result A E → BufferedOutput W → BufferedOutput W → List ℕ → Type 0
Buffers told result old new octets = WritesBut result (taken told old) (taken told new) (waiting old ++ octets) (waiting new)

-- what a call that puts octets there did
pub record Puts {W : Type 0} (told : W → Option (List ℕ)) (result : Result (Unit {0}) WriteFault) (old new : BufferedOutput W) (octets : List ℕ) : Type 0 where
  pub text : Buffers told result old new octets
  pub failed : writer_failed new ≡ (writer_failed old || is_err result)
  pub same_writer : IsSameWriter old new

module _ {W I X F : Type 0} (told : W → Option (List ℕ)) (gives : I → Option X → I → Type 0)
    (calls : Mut F (MutBor (BufferedOutput W) × (X × Unit {0})) (Result (Unit {0}) WriteFault × (MutBor (BufferedOutput W) × Unit {0}))) where
  -- each item has a text, which a call puts there and changes nothing else, and what is left of an iterator the texts of its items, one after the other
  pub record PutsEach (put : F) (left : I → List ℕ) (text : X → List ℕ) : Type 0 where
    pub none : (s t : I) → gives s None t → left s ≡ []
    pub some : (s t : I) (x : X) → gives s (Some x) t → left s ≡ text x ++ left t
    pub puts : (x : X) (old new : MutBor (BufferedOutput W)) (r : Result (Unit {0}) WriteFault) (next : F) → Called calls put (old, (x, tt)) (r, (new, tt)) next
        → (next ≡ put) × Puts told r old.now new.now (text x)

  -- so those of all items are put there
  abbrev pub PutsAll : Result (Unit {0}) WriteFault → BufferedOutput W → BufferedOutput W → I → F → Type 0
  PutsAll result old new items put = (left : I → List ℕ) (text : X → List ℕ) → PutsEach put left text → Puts told result old new (left items)
