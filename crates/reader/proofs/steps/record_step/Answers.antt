use mathlib.Core.Path.{ap, ◌∙◌}
use Rattle.std.proofs.lemmas.Result.{err_from_is_err_and}
use Rattle.std.specs.Prelude.{Err}
use Rattle.reader.proofs.Laws.{step-unknown, step_of}
use Rattle.reader.proofs.steps.record_step.Goals as goal

pub returns-in_err-try_from-clause-value : goal.returns-in_err-try_from-clause-value
returns-in_err-try_from-clause-value c =
    let (_, is, wrong) = err_from_is_err_and c.from_residual.result c.from_residual.ensures.1 in
    is ∙ ap Err wrong ∙ step-unknown _ _ _ c.in_err-try_from.ensures

pub returns-in-DeviceRecord-clause-value : goal.returns-in-DeviceRecord-clause-value
returns-in-DeviceRecord-clause-value c = step_of _ _ _ _ _ _ c.in_ok-try_from.ensures c.in-DeviceRecord.is c.device_step.ensures.value

pub returns-in-WeightsRecord-clause-value : goal.returns-in-WeightsRecord-clause-value
returns-in-WeightsRecord-clause-value c = step_of _ _ _ _ _ _ c.in_ok-try_from.ensures c.in-WeightsRecord.is c.weights_step.ensures.value

pub returns-in-MoveRecord-clause-value : goal.returns-in-MoveRecord-clause-value
returns-in-MoveRecord-clause-value c = step_of _ _ _ _ _ _ c.in_ok-try_from.ensures c.in-MoveRecord.is c.move_step.ensures.value

pub returns-in-ItemRecord-clause-value : goal.returns-in-ItemRecord-clause-value
returns-in-ItemRecord-clause-value c = step_of _ _ _ _ _ _ c.in_ok-try_from.ensures c.in-ItemRecord.is c.item_step.ensures.value
