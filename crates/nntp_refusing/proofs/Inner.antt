-- A `&` to a `Refusing` as a `&` to the allocator in it, and what both walks share.
use Rattle.std.proofs.{Common.{ℕ, ◌+◌, [], ◌∷◌}, alloc.{Calls.{Al, Answer, α, seen}, AllocError.TheLaws.{the_row_laws as error_laws}}}
use Rattle.std.proofs.result.Result.TheLaws.{the_row_laws as result_laws}
use seplogic.Ra.Ura.{Ura}
use base.Logic.{ent}
use base.Fml.{Lft}
use mir.Syntax.{Args, Fn, a_type, dnil, dcons}
use mir.MapTy.{inst_fn}
use prog.Memory.{up, align}
use types.Logic.{Logic, sem}
use types.Kit.{‵, ◌$◌, ◌∵◌, !, qed, done, keep, fsplit}
use denote.Builtin.{RefOf, RawPtr}
use denote.Memory.{hidden_shr, shared_of}
use denote.Param.{bounded, param, Laws.{Laws, param_laws}}
use denote.RattleType.{RattleType}
use denote.Signature.{Slot, plain}
use borrow.Table.RawPtr.{ptr_laws}
use Rattle.nntp_refusing.{proofs.Refusing.TheLaws.{the_row_laws}, specs.declared.Refusing.{Refusing}}
use Rattle.std.specs.contracts.alloc.AllocError as AllocError
use Rattle.nntp_refusing.specs.contracts.Refusing as R

-- the row of a `Refusing` over the allocator Z
abbrev pub row : Al → RattleType
row Z = R.the_row (param 0 Z.row)

abbrev pub row_laws : (Z : Al) → Laws (row Z)
row_laws Z = the_row_laws (param 0 Z.row) (param_laws 0 Z.row Z.laws)

-- what `allocate` returns
abbrev pub answer_laws : Laws Answer
answer_laws = result_laws RawPtr AllocError.the_row ptr_laws error_laws

-- where its first field lies, in a `Refusing` at (b, o)
abbrev pub inner_at : Al → ℕ × ℕ → ℕ × ℕ
inner_at Z p = (p.0, p.1 + up (align (α Z)) 0)

-- a method's code at the allocator Z
abbrev pub args : Al → Args
args Z = bounded (a_type ∷ []) (Z.row, tt) (dcons Z.d (dcons Z.drops dnil))

abbrev pub code_at : Al → Fn → Fn
code_at Z e = inst_fn (args Z) e

-- the slot of `&self`
abbrev pub by_self : Al → Slot 2
by_self Z = RefOf (0 ∷ []) tt (plain (λ _. row Z)) (λ _. tt)

pub lends_inner : (Z : Al) {M : Type 1} {𝓤 : Ura M} (𝓛 : Logic 𝓤) (κ : Lft) (p : ℕ × ℕ) (x : Refusing Z.row.Denot)
    → ent 𝓤 (sem 𝓛 (hidden_shr (row Z) κ x p.0 p.1)) (sem 𝓛 (seen Z κ (inner_at Z p) x.inner))
lends_inner Z 𝓛 κ p x = qed 𝓛 (‵ (shared_of (row Z) x p.0 p.1 κ) ∷ []) ∵ fsplit ! $ fsplit ! $ keep ! (0 ∷ []) $ done !
