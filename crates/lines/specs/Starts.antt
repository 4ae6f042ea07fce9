-- The first line of an attempt, of an upgrade, of a downgrade and of a leave.
use Rattle.lines.specs.declared.place.Role.{Role}
use Rattle.lines.specs.declared.place.Role.TheVariants.{Reader, Writer}
use Rattle.lines.specs.declared.place.Standing.{Standing}
use Rattle.lines.specs.declared.place.Standing.TheVariants.{Normal, Upgraded, Downgraded}
use Rattle.lines.specs.declared.place.Line.{Line}
use Rattle.lines.specs.declared.place.Line.TheVariants.{L0p1, L7, L16, L23, L25p1, L26p1, L27p1, Down28p1, L28p1}

abbrev pub begin_line : Role → Line
begin_line Reader = L16
begin_line Writer = L0p1

abbrev pub upgrade_line : Line
upgrade_line = L27p1

-- of a task that has the writing right: a normal writer or an upgraded task
abbrev pub downgrade_line : Standing → Line
downgrade_line Normal = L25p1
downgrade_line Upgraded = Down28p1
downgrade_line Downgraded = L25p1

abbrev pub leave_line : Role → Standing → Line
leave_line Reader Normal = L23
leave_line Writer Normal = L7
leave_line o Upgraded = L28p1
leave_line Reader Downgraded = L23
leave_line Writer Downgraded = L26p1
