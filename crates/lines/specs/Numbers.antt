-- The published number of each line.
use Rattle.std.specs.Prelude.{ℕ, ◌%◌}
use Rattle.lines.specs.declared.place.Line.{Line}
use Rattle.lines.specs.declared.place.Line.TheVariants.{L0p1, L0p2, L1, L2, L3, L4, L6, L7, L8, L9, L10, L11, L12, L13, L14, L15, L16, L16p1, L17, L18, L19, L20, L21, L22, L22p1, L22p2, L23, L25p1, L25p2, L25p3, L26p1, L27p1, L27p2, L27p3, L27p4, L27p5, Down28p1, Down28p2, L28p1, L28p2, L29p2, L32p1}

-- a number of its own for each line: ten times the published one, and 1000 more in the form of 28.1 and 28.2 that downgrades
abbrev pub code : Line → ℕ
code L0p1 = 1
code L0p2 = 2
code L1 = 10
code L2 = 20
code L3 = 30
code L4 = 40
code L6 = 60
code L7 = 70
code L8 = 80
code L9 = 90
code L10 = 100
code L11 = 110
code L12 = 120
code L13 = 130
code L14 = 140
code L15 = 150
code L16 = 160
code L16p1 = 161
code L17 = 170
code L18 = 180
code L19 = 190
code L20 = 200
code L21 = 210
code L22 = 220
code L22p1 = 221
code L22p2 = 222
code L23 = 230
code L25p1 = 251
code L25p2 = 252
code L25p3 = 253
code L26p1 = 261
code L27p1 = 271
code L27p2 = 272
code L27p3 = 273
code L27p4 = 274
code L27p5 = 275
code Down28p1 = 1281
code Down28p2 = 1282
code L28p1 = 281
code L28p2 = 282
code L29p2 = 292
code L32p1 = 321

-- ten times the number: both forms of a line have one
abbrev pub tenfold : Line → ℕ
tenfold l = code l % 1000
