-- The right of a task: a normal writer and an upgraded task inside have the writing right,
-- every other task inside the reading right, and a task that is not inside has none.
use Rattle.std.specs.Prelude.{Bool, true, false, Some, None, Option}
use Rattle.lines.specs.declared.place.Right.{Right}
use Rattle.lines.specs.declared.place.Right.TheVariants.{Reading, Writing}
use Rattle.lines.specs.declared.place.Role.{Role}
use Rattle.lines.specs.declared.place.Role.TheVariants.{Reader, Writer}
use Rattle.lines.specs.declared.place.Standing.{Standing}
use Rattle.lines.specs.declared.place.Standing.TheVariants.{Normal, Upgraded, Downgraded}
use Rattle.lines.specs.declared.place.Place.{Place}
use Rattle.lines.specs.declared.place.Place.TheVariants.{Rest, Inside, Next}
use Rattle.lines.specs.declared.track.Track.{Track}

abbrev pub right_inside : Role → Standing → Right
right_inside Reader Normal = Reading
right_inside Writer Normal = Writing
right_inside o Upgraded = Writing
right_inside o Downgraded = Reading

abbrev pub right_at : Place → Role → Standing → Option Right
right_at Rest o s = None
right_at Inside o s = Some (right_inside o s)
right_at (Next l) o s = None

abbrev pub right_of : Track → Option Right
right_of r = right_at r.place r.role r.standing

abbrev pub same_right : Right → Right → Bool
same_right Reading Reading = true
same_right Reading Writing = false
same_right Writing Reading = false
same_right Writing Writing = true

-- whether there is a right, and it is this one
abbrev pub is_right : Option Right → Right → Bool
is_right None w = false
is_right (Some v) w = same_right v w
