-- A row refuses the load, or its graph is loaded. Assumes nothing.
use Rattle.std.proofs.Common.{sym, ◌∙◌, refl}
use mathlib.Core.Bool.{true, false}
use lib.ListN.{length}
use Rattle.move_ledger.proofs.LoadLaws.{loading_row-none}
use Rattle.refusals.specs.Rows.{row_some}
use Rattle.move_load_view.specs.View.{lent_by}
use Rattle.move_loading.specs.New.{new_refused, new-answer, new_area}
use Rattle.reduced_chunk_graph.specs.Answers.{of_load}
use Rattle.reduced_chunk_graph.specs.Asked.{handed_on}
use Rattle.reduced_chunk_graph.specs.Loads.{marks_are, can_flag, flagged_area}
use Rattle.reduced_chunk_graph.proofs.load.new.Goals as goal

pub returns-in_err-loading_refusal : goal.returns-in_err-loading_refusal
returns-in_err-loading_refusal c =
    let f = c.args in
    let all = new_refused (lent_by f.load.now) f.fixed.now f.n f.sets.now f.area.now c.in_err-loading_refusal.ensures (row_some _) in
    record { result_value = handed_on of_load _ (λ _. refl) c.from_residual.ensures.1 ∙ all.0; area_after = all.1 }

pub load-cyclic-requires : goal.load-cyclic-requires
load-cyclic-requires c =
    let f = c.args in
    loading_row-none (lent_by f.load.now) f.fixed.now f.n f.sets.now (length f.area.now) (sym c.in_ok-loading_refusal.ensures)

pub keep-requires : goal.keep-requires
keep-requires c =
    let f = c.args in
    can_flag (lent_by f.load.now) f.fixed.now f.n f.sets.now f.area.now c.in_ok-loading_refusal.ensures c.load-cyclic.ensures.area_after

pub returns-then-cyclic : goal.returns-then-cyclic
returns-then-cyclic c =
    let f = c.args in
    let none = sym c.in_ok-loading_refusal.ensures in
    let is = sym c.if-cyclic.true ∙ c.load-cyclic.ensures.value in
    record {
      result_value = new-answer (lent_by f.load.now) f.fixed.now f.n f.sets.now f.area.now none {c = true} is;
      area_after = new_area (lent_by f.load.now) f.fixed.now f.n f.sets.now f.area.now none {c = true} is
          (flagged_area (lent_by f.load.now) f.fixed.now f.n f.sets.now f.area.now (marks_are (lent_by f.load.now) f.fixed.now f.n f.sets.now f.area.now c.in_ok-loading_refusal.ensures) c.load-cyclic.ensures.area_after c.keep.ensures);
    }

pub returns : goal.returns
returns c =
    let f = c.args in
    let none = sym c.in_ok-loading_refusal.ensures in
    let is = sym c.if-cyclic.false ∙ c.load-cyclic.ensures.value in
    record {
      result_value = new-answer (lent_by f.load.now) f.fixed.now f.n f.sets.now f.area.now none {c = false} is;
      area_after = new_area (lent_by f.load.now) f.fixed.now f.n f.sets.now f.area.now none {c = false} is
          (flagged_area (lent_by f.load.now) f.fixed.now f.n f.sets.now f.area.now (marks_are (lent_by f.load.now) f.fixed.now f.n f.sets.now f.area.now c.in_ok-loading_refusal.ensures) c.load-cyclic.ensures.area_after c.keep.ensures);
    }
