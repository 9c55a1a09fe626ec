use Rattle.std.proofs.Common.{ap, map}
use Rattle.trunk.specs.Views.{turn_says}
use Rattle.rehearsal.specs.declared.word.Book.TheVariants.{Mask, List}
use Rattle.rehearsal.specs.Scripts.{script_says}
use Rattle.rehearsal.proofs.Running.{runs_as}
use Rattle.rehearsal.proofs.whole.run_script.Goals as goal

pub returns-in-Mask-Mask : goal.returns-in-Mask-Mask
returns-in-Mask-Mask c =
    runs_as (script_says c.args.script.now) Mask Mask c.setting-setting.result _ _ _ c.in-Mask-Mask.is-0 c.in-Mask-Mask.is-1 c.setting-setting.ensures (ap (map turn_says) c.as_slice-turns.ensures.value) c.run.ensures

pub returns-in-Mask-List : goal.returns-in-Mask-List
returns-in-Mask-List c =
    runs_as (script_says c.args.script.now) Mask List c.setting-setting.result _ _ _ c.in-Mask-List.is-0 c.in-Mask-List.is-1 c.setting-setting.ensures (ap (map turn_says) c.as_slice-turns.ensures.value) c.run-in-Mask-List.ensures

pub returns-in-List-Mask : goal.returns-in-List-Mask
returns-in-List-Mask c =
    runs_as (script_says c.args.script.now) List Mask c.setting-setting.result _ _ _ c.in-List-Mask.is-0 c.in-List-Mask.is-1 c.setting-setting.ensures (ap (map turn_says) c.as_slice-turns.ensures.value) c.run-in-List-Mask.ensures

pub returns-in-List-List : goal.returns-in-List-List
returns-in-List-List c =
    runs_as (script_says c.args.script.now) List List c.setting-setting.result _ _ _ c.in-List-List.is-0 c.in-List-List.is-1 c.setting-setting.ensures (ap (map turn_says) c.as_slice-turns.ensures.value) c.run-in-List-List.ensures
