-- How the value of a variable is shown, by its type.
use Rattle.std.specs.Prelude.{ℕ, zero, suc, Bool, true, false, not, ◌&&◌, List, [], ◌∷◌, ◌++◌, length, map, Option, Some, None, nat_eq, nat_le, slice_get, decimal, codes, ℤ, pos}
use Rattle.std.specs.List.{list_all, flat_map}
use Rattle.std.specs.Fmt.{signed_decimal}
use Rattle.mp_files.specs.WrittenFields.{truth_text}
use Rattle.mp_tables.specs.declared.types.TypeId.{TypeId}
use Rattle.mp_tables.specs.declared.types.TypeId.TheVariants as type
use Rattle.mp_tables.specs.declared.types.Bounds.{Bounds}
use Rattle.mp_tables.specs.declared.types.ArrayShape.{ArrayShape}
use Rattle.mp_tables.specs.declared.types.Within.{Within}
use Rattle.mp_tables.specs.declared.types.Part.{Part}
use Rattle.mp_tables.specs.declared.types.Slot.{Slot}
use Rattle.mp_tables.specs.declared.types.RecordShape.{RecordShape}
use Rattle.mp_tables.specs.declared.types.Shape.{Shape}
use Rattle.mp_tables.specs.declared.types.Shape.TheVariants as shape
use Rattle.mp_meaning.specs.Numbers.{natural, same_number}
use Rattle.mp_meaning.specs.Operators.{is_true}
use Rattle.mp_meaning.specs.Values.{Value, Undefined, Number, Members, Pointer, Routine, Refers, File, Structure, Values, NoValues, Then, value_at, selects, characters_in}

-- ---- texts

-- parts with `, ` between them
abbrev pub joined : List (List ℕ) → List ℕ
joined [] = []
joined (t ∷ []) = t
joined (t ∷ u ∷ more) = t ++ codes ", " ++ joined (u ∷ more)

abbrev pub in_brackets : List (List ℕ) → List ℕ
in_brackets parts = codes "(" ++ joined parts ++ codes ")"

abbrev pub is_printable : ℕ → Bool
is_printable c = nat_le 32 c && nat_le c 126

-- a quote is doubled
abbrev pub quote_doubled : ℕ → List ℕ
quote_doubled c = elim (nat_eq c 39) as (λ is. List ℕ) [ true ↦ 39 ∷ 39 ∷ [] | false ↦ c ∷ [] ]

abbrev pub quoted : List ℕ → List ℕ
quoted cs = 39 ∷ flat_map quote_doubled cs ++ 39 ∷ []

abbrev pub character_text : ℕ → List ℕ
character_text c =
    elim (is_printable c) as (λ is. List ℕ) [ true ↦ quoted (c ∷ []) | false ↦ codes "chr(" ++ decimal c ++ codes ")" ]

abbrev pub name_of : Option (List ℕ) → List ℕ
name_of None = []
name_of (Some name) = name

-- ---- values of ordinal types, by the host type

abbrev pub constant_names : Option Shape → List (List ℕ)
constant_names (Some (shape.Names names)) = names
constant_names _ = []

-- the host type of an ordinal type
abbrev pub host_in : TypeId → Option Shape → TypeId
host_in id (Some (shape.Range b)) = b.host
host_in id _ = id

abbrev pub base_host : Option Shape → TypeId
base_host (Some (shape.SetOf packed (Some b))) = b.host
base_host _ = type.Integer

module _ (shapes : TypeId → Option Shape) where
  abbrev pub ordinal_text : (host : TypeId) → ℤ → List ℕ
  ordinal_text type.Integer n = signed_decimal n
  ordinal_text type.Boolean n = truth_text (is_true n)
  ordinal_text type.Char n = character_text (natural n)
  ordinal_text type.Text n = []
  ordinal_text (type.Own path ordinal) n = name_of (slice_get (constant_names (shapes (type.Own path ordinal))) (natural n))

-- ---- records: a field is shown where all variants that hold it are active

abbrev pub selected : Option Value → List ℤ → Bool
selected None constants = false
selected (Some tag) constants = selects tag constants

-- the tag of the part selects the variant
abbrev pub is_selected : Values → Option Part → ℕ → Bool
is_selected vs None variant = false
is_selected vs (Some part) variant = elim (slice_get part.variants variant) as (λ v. Bool) [
  | None ↦ false
  | Some v ↦ selected (value_at vs part.tag) v.constants
]

abbrev pub part_within : Option Part → Option Within
part_within None = None
part_within (Some part) = part.within

-- parts stand in one another at most as often as the record has parts
abbrev pub is_active_within : ℕ → RecordShape → Values → Option Within → Bool
is_active_within levels r vs None = true
is_active_within zero r vs (Some w) = false
is_active_within (suc n) r vs (Some w) =
    is_selected vs (slice_get r.parts w.part) w.variant && is_active_within n r vs (part_within (slice_get r.parts w.part))

abbrev pub is_active : RecordShape → Values → Option Within → Bool
is_active r vs w = is_active_within (length r.parts) r vs w

-- ---- arrays

abbrev pub is_char : Option TypeId → Bool
is_char (Some type.Char) = true
is_char _ = false

abbrev pub is_from_one : Option Bounds → Bool
is_from_one None = false
is_from_one (Some b) = elim b.host as (λ h. Bool) [
  | type.Integer ↦ same_number b.low (pos 1) && not (same_number b.high (pos 1))
  | type.Boolean ↦ false
  | type.Char ↦ false
  | type.Text ↦ false
  | type.Own path ordinal ↦ false
]

-- a string type (6.4.3.2)
abbrev pub is_string : ArrayShape → Bool
is_string a = a.packed && is_char a.component && is_from_one a.index

abbrev pub all_printable : Option (List ℕ) → Bool
all_printable None = false
all_printable (Some cs) = list_all is_printable cs

abbrev pub array_text : ArrayShape → Values → List (List ℕ) → List ℕ
array_text a vs parts = elim (is_string a && all_printable (characters_in vs)) as (λ is. List ℕ) [
  | true ↦ quoted (name_of (characters_in vs))
  | false ↦ in_brackets parts
]

-- a field with its name, where it has one and is active
abbrev pub field_texts : RecordShape → Values → Slot → List ℕ → List (List ℕ)
field_texts r all s text = elim s.name as (λ n. List (List ℕ)) [
  | None ↦ []
  | Some name ↦ elim (is_active r all s.within) as (λ is. List (List ℕ)) [
    | true ↦ (name ++ codes ": " ++ text) ∷ []
    | false ↦ []
  ]
]

-- by the texts of the components of an array, and of the fields of a record
abbrev pub structure_text : Option Shape → Values → (Option TypeId → List (List ℕ)) → (RecordShape → List (List ℕ)) → List ℕ
structure_text (Some (shape.Arr a)) vs components fields = array_text a vs (components a.component)
structure_text (Some (shape.Rec r)) vs components fields = in_brackets (fields r)
structure_text _ vs components fields = codes "file"

module _ (shapes : TypeId → Option Shape) where
  abbrev mutual
    pub value_text : Option TypeId → Value → List ℕ
    value_text None v = []
    value_text (Some id) Undefined = codes "?"
    value_text (Some id) (Number n) = ordinal_text shapes (host_in id (shapes id)) n
    value_text (Some id) (Members set) =
        codes "[" ++ joined (map (λ m. ordinal_text shapes (base_host (shapes id)) (pos m)) set) ++ codes "]"
    value_text (Some id) (Pointer zero) = codes "nil"
    value_text (Some id) (Pointer (suc k)) = codes "object " ++ decimal (suc k)
    value_text (Some id) (Routine block parent) = []
    value_text (Some id) (Refers root way type) = []
    value_text (Some id) (File f) = codes "file"
    value_text (Some id) (Structure vs) = structure_text (shapes id) vs (λ of. texts_of of vs) (λ r. field_list r vs r.slots vs)

    pub texts_of : Option TypeId → Values → List (List ℕ)
    texts_of id NoValues = []
    texts_of id (Then v more) = value_text id v ∷ texts_of id more

    pub field_list : RecordShape → (all : Values) → List Slot → Values → List (List ℕ)
    field_list r all slots NoValues = []
    field_list r all [] (Then v more) = []
    field_list r all (s ∷ slots) (Then v more) = field_texts r all s (value_text s.of v) ++ field_list r all slots more
