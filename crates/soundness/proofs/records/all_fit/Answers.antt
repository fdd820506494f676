-- `soundness::records::all_fit` meets its contract: each record passed is sound and entered.
-- Assumes nothing.
use mathlib.Core.Path.{◌≡◌, sym, ap, subst}
use mathlib.Core.Bool.{not, true≢false}
use Prim.Native.Nat.{ℕ}
use native.Mathlib.Omega.{arith}
use Rattle.record_index.specs.Index.{Indexed}
use Rattle.record_index.proofs.Chain.{index_none}
use Rattle.soundness.proofs.Parts.{fitting_none, fitting_more, fitting_flags, fitting_not, fitting_all}
use Rattle.soundness.proofs.records.all_fit.Goals as goal

pub loop-k-init : goal.loop-k-init
loop-k-init c = (fitting_none _ _ _ _, rw c.requires.2 (index_none _))

pub fit_record-requires : goal.fit_record-requires
fit_record-requires c =
    let p = c.requires in
    record {
      fits = omega (arith, p.0);
      few = p.1;
      flags = fitting_flags _ _ _ _ _ c.loop-k.invariant.0;
      indexed = c.loop-k.invariant.1;
    }

pub returns-then-not-fit_record : goal.returns-then-not-fit_record
returns-then-not-fit_record c = (
  fitting_not _ _ _ _ _ c.loop-k-test.true c.fit_record.ensures (ap not c.if-not-fit_record.true),
  λ e. absurd (true≢false (sym e)),
)

pub enter-requires : goal.enter-requires
enter-requires c =
    let p = c.requires in
    (omega (arith, p.0), p.1, c.loop-k.invariant.1)

pub loop-k-preserved : goal.loop-k-preserved
loop-k-preserved c = (
  fitting_more _ _ _ _ _ c.loop-k.invariant.0 c.loop-k-test.true c.fit_record.ensures (ap not c.if-not-fit_record.false),
  c.enter.ensures,
)

pub returns : goal.returns
returns c =
    let e : c.loop-k.k ≡ c.args.used = omega (arith, c.loop-k.invariant.0.within) in (
      fitting_all _ _ _ _ _ c.loop-k.invariant.0 c.loop-k-test.false,
      λ _. subst (λ (k : ℕ). Indexed c.args.cells.now k c.loop-k.index) e c.loop-k.invariant.1,
    )
