-- The sheets of images, computed: 01's countdown, refusals with their values (10, which takes 4,097 lines, is in the stored list), and targets on lines and off them.
use Rattle.std.specs.Prelude.{◌≡◌, refl, List, [], ◌∷◌, ℕ, pos}
use Rattle.base_spec.specs.Written.{decimal_of}
use Rattle.numeric_spec.specs.Form.{form_of}
use Rattle.read_spec.specs.Map.{group_at, map}
use Rattle.read_spec.specs.Read.{read_of}
use Rattle.sheet_spec.specs.Names.{bytes}
use Rattle.sheet_spec.specs.Spell.{spell}
use Rattle.sheet_spec.specs.Translate.{in_order, refused}
use Rattle.unsheet_spec.specs.Lines.{lines_in}
use Rattle.unsheet_spec.specs.Text.{tokens_of, sheet_text}
use Rattle.unsheet_spec.specs.Unsheet.{unsheet_outcome}

abbrev countdown : List ℕ
countdown = 0x7005 ∷ 0x5340 ∷ 0x66FC ∷ 0x4E75 ∷ []

abbrev spelling : List ℕ
spelling = bytes "START\t4096\nMOVEQ\t5\tData\t0\nSUBQ\t1\tRegister\tData\t0\tWord\nBcc\t@2\tNotEqual\tShort\nRTS\n"

-- as many bytes lent as the text has, and one fewer
listed : (sheet_text 4096 countdown ≡ spelling) × (unsheet_outcome 4096 countdown 80 ≡ in_order) × (unsheet_outcome 4096 countdown 79 ≡ refused 17 0 0 (pos 0))
unfolding unsheet_outcome lines_in sheet_text tokens_of spell form_of decimal_of read_of group_at map
listed = (refl, refl, refl)

-- an odd start, the last word below 2^32, and one word beyond; an empty image is 5, but 9 comes first
starts : (unsheet_outcome 4097 countdown 65536 ≡ refused 9 0 0 (pos 0)) × (unsheet_outcome 4294967294 (0x4E71 ∷ []) 65536 ≡ in_order)
    × (unsheet_outcome 4294967294 (0x4E71 ∷ 0x4E71 ∷ []) 65536 ≡ refused 9 0 0 (pos 0)) × (unsheet_outcome 4096 [] 65536 ≡ refused 5 0 0 (pos 0))
    × (unsheet_outcome 4097 [] 65536 ≡ refused 9 0 0 (pos 0))
unfolding unsheet_outcome lines_in sheet_text tokens_of spell form_of decimal_of read_of group_at map
starts = (refl, refl, refl, refl, refl)

-- a BRA cut before its displacement, and MOVEQ with bit 8 set: the first of them along the image, with its place
readings : (unsheet_outcome 4096 (0x7005 ∷ 0x4E71 ∷ 0x6000 ∷ []) 65536 ≡ refused 5 0 0 (pos 2)) × (unsheet_outcome 4096 (0x7005 ∷ 0x7100 ∷ 0x6000 ∷ []) 65536 ≡ refused 6 0 0 (pos 1))
unfolding unsheet_outcome lines_in sheet_text tokens_of spell form_of decimal_of read_of group_at map
readings = (refl, refl)

-- a BRA into the middle of MOVE, to the end, and before the start: 16 with its place, before 17 and after 6
branches : (unsheet_outcome 4096 (0x303C ∷ 0x0005 ∷ 0x60FC ∷ []) 0 ≡ refused 16 0 0 (pos 2)) × (unsheet_outcome 4096 (0x4E71 ∷ 0x6000 ∷ 0x0002 ∷ []) 65536 ≡ refused 16 0 0 (pos 1))
    × (unsheet_outcome 4096 (0x60FC ∷ []) 65536 ≡ refused 16 0 0 (pos 0)) × (unsheet_outcome 4096 (0x60FC ∷ 0x7100 ∷ []) 65536 ≡ refused 6 0 0 (pos 1))
unfolding unsheet_outcome lines_in sheet_text tokens_of spell form_of decimal_of read_of group_at map
branches = (refl, refl, refl, refl)

-- LEA of a PcDisplacement and of a PcIndex, on a line and off it: to its own extension word, and to the end
operands : (sheet_text 4096 (0x41FA ∷ 0xFFFE ∷ []) ≡ bytes "START\t4096\nLEA\tPcDisplacement\t@1\tAddress\t0\n")
    × (sheet_text 4096 (0x41FA ∷ 0x0000 ∷ []) ≡ bytes "START\t4096\nLEA\tPcDisplacement\t4098\tAddress\t0\n")
    × (sheet_text 4096 (0x4E71 ∷ 0x43FB ∷ 0x10FC ∷ []) ≡ bytes "START\t4096\nNOP\nLEA\tPcIndex\t@1\tData\t1\tWord\tAddress\t1\n")
    × (sheet_text 4096 (0x41FB ∷ 0x0002 ∷ []) ≡ bytes "START\t4096\nLEA\tPcIndex\t4100\tData\t0\tWord\tAddress\t0\n")
unfolding unsheet_outcome lines_in sheet_text tokens_of spell form_of decimal_of read_of group_at map
operands = (refl, refl, refl, refl)
