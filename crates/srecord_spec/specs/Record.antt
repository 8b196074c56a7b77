-- An S-record (02, N1): `S`, its type, then in capital hexadecimal digits, two a byte, its count, its address, its data and its checksum.
use Rattle.std.specs.Prelude.{Bool, true, false, cond, not, ◌&&◌, ◌||◌, List, [], ◌∷◌, ◌++◌, ℕ, zero, suc, ◌+◌, ◌*◌, ◌-◌, ◌/◌, ◌%◌, ◌^◌, eqb, leb, ltb, length, take, drop, get_or}
use Rattle.base_spec.specs.Written.{hex2_of}
use Rattle.sheet_spec.specs.Sheet.{total}
use Rattle.print_spec.specs.Run.{within}

pub record SRecord : Type 0 where
  pub type : ℕ
  pub address : ℕ
  pub bytes : List ℕ
  pub checksum : ℕ

-- the bytes of an address, by type from 0 on: data records are S1, S2 and S3, closing ones S7, S8 and S9; 0 for no such record
abbrev pub address_width : ℕ → ℕ
address_width t = get_or (0 ∷ 2 ∷ 3 ∷ 4 ∷ 0 ∷ 0 ∷ 0 ∷ 4 ∷ 3 ∷ 2 ∷ []) t 0

abbrev pub closes : ℕ → Bool
closes t = leb 7 t

-- the w bytes of n, high byte first
abbrev pub bytes_to : ℕ → ℕ → List ℕ
bytes_to zero n = []
bytes_to (suc w) n = n / 256 ^ w % 256 ∷ bytes_to w n

-- address and data
abbrev pub address_and_data : SRecord → List ℕ
address_and_data r = bytes_to (address_width r.type) r.address ++ r.bytes

-- the count covers address, data and checksum
abbrev pub count_of : SRecord → ℕ
count_of r = length (address_and_data r) + 1

-- the ones' complement of the low byte of the sum of count, address and data bytes
unfoldable pub checksum_of : SRecord → ℕ
checksum_of r = 255 - (count_of r + total (address_and_data r)) % 256

-- all bytes of a record
abbrev pub record_bytes : SRecord → List ℕ
record_bytes r = count_of r ∷ (address_and_data r ++ (r.checksum ∷ []))

-- two capital hexadecimal digits a byte
abbrev pub digits_of : List ℕ → List ℕ
digits_of [] = []
digits_of (b ∷ bs) = hex2_of b ++ digits_of bs

-- how it is written, without its LF
unfoldable pub spell_record : SRecord → List ℕ
spell_record r = 83 ∷ (48 + r.type) ∷ digits_of (record_bytes r)

-- ---- what a line says

-- what a digit writes, 0 to 9, A to F; 16 for another byte
abbrev pub digit_value : ℕ → ℕ
digit_value b = cond (within 48 57 b) (b - 48) (cond (within 65 70 b) (b - 55) 16)

abbrev pub is_hex_digit : ℕ → Bool
is_hex_digit b = ltb (digit_value b) 16

-- digits, two a byte, and the bytes that they write
abbrev pub are_pairs : List ℕ → Bool
are_pairs [] = true
are_pairs (a ∷ []) = false
are_pairs (a ∷ (b ∷ ds)) = is_hex_digit a && is_hex_digit b && are_pairs ds

abbrev pub pair_bytes : List ℕ → List ℕ
pair_bytes [] = []
pair_bytes (a ∷ []) = []
pair_bytes (a ∷ (b ∷ ds)) = (digit_value a * 16 + digit_value b) ∷ pair_bytes ds

-- the number that bytes write, high byte first, after bytes that write a
abbrev pub number_from : ℕ → List ℕ → ℕ
number_from a [] = a
number_from a (b ∷ bs) = number_from (a * 256 + b) bs

-- the bytes of a line behind `S` and the type, and the first of them
abbrev pub line_bytes : List ℕ → List ℕ
line_bytes p = pair_bytes (drop 2 p)

abbrev pub count_in : List ℕ → ℕ
count_in p = get_or (line_bytes p) 0 0

abbrev pub type_in : List ℕ → ℕ
type_in p = get_or p 1 0 - 48

-- its record: behind the count the address, the checksum last, the data between them
unfoldable pub record_in : List ℕ → SRecord
record_in p =
    let w = address_width (type_in p) in
    record {
      type = type_in p;
      address = number_from 0 (take w (drop 1 (line_bytes p)));
      bytes = take (count_in p - (w + 1)) (drop (1 + w) (line_bytes p));
      checksum = get_or (line_bytes p) (count_in p) 0;
    }

-- whether form and length are right and the data bytes even in number; a closing record has no data
unfoldable pub is_record : List ℕ → Bool
is_record p =
    let w = address_width (type_in p) in
    eqb (get_or p 0 0) 83 && leb 1 w
    && are_pairs (drop 2 p)
    && eqb (length (line_bytes p)) (1 + count_in p) && leb (w + 1) (count_in p)
    && eqb (length (record_in p).bytes % 2) 0
    && (not (closes (type_in p)) || eqb (length (record_in p).bytes) 0)
