-- `inforce::lines::put_unit` meets its contract: the profile, the mappings, then the devices.
use mathlib.Core.Path.{sym, ◌∙◌}
use mathlib.Core.List.{◌++◌, map}
use Rattle.mappings.specs.Mappings.{mappings_of, devices_of}
use Rattle.text.specs.Laying.{output, lay_all}
use Rattle.text.proofs.Fits.{append}
use Rattle.inforce.specs.Shown.{profile_lines, mapping_line, device_line, unit_lines}
use borrow.Author.Rules.{rules}
use Rattle.inforce.proofs.lines.put_unit.Goals as goal

pub returns : goal.returns
unfolding unit_lines
returns c =
    let d = c in
    let m = d in
    let p = m in
    let a = p.args in
    let first = output a.out.now a.laid in
    let u = a.unit in
    rw (d.put_devices.ensures, m.put_mappings-mapped.ensures, p.put_profile-profiled.ensures)
    (sym
    (append first (profile_lines u.config) (map mapping_line (mappings_of u) ++ map device_line (devices_of u))
    ∙ append (lay_all first (profile_lines u.config)) (map mapping_line (mappings_of u)) (map device_line (devices_of u))))
