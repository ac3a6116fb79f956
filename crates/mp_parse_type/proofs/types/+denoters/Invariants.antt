use Rattle.std.proofs.Common.{◌≡◌, ◌+◌, ◌-◌, ◌*◌, None}
use Rattle.mp_ast.specs.declared.symbols.Symbol.TheVariants as s
use Rattle.mp_ast.specs.declared.types.Denoter.TheVariants as d
use Rattle.mp_cursor.specs.declared.next.Next.TheVariants as next
use Rattle.mp_cursor.specs.declared.next.Next.TheVariants.{Symbol}
use Rattle.mp_cursor.specs.Nexts.{is}
use Rattle.mp_cursor.specs.Parsers.{series}
use Rattle.mp_cursor.specs.LeafTokens.{constant_begins}
use Rattle.mp_parse_type.specs.Types.{series_and_last, behind, field_list, further_variant, further_variants, further_section, last_fields, further_fields}
use Rattle.mp_parse_type.proofs.types.+denoters.Given as goal

-- each call has less room, or the same room and a lower rank
abbrev pub decreases-array_type : goal.decreases-array_type
decreases-array_type l = 32 * l.room + 0

abbrev pub decreases-record_type : goal.decreases-record_type
decreases-record_type l = 32 * l.room + 0

abbrev pub decreases-file_type : goal.decreases-file_type
decreases-file_type l = 32 * l.room + 0

abbrev pub decreases-structure : goal.decreases-structure
decreases-structure l = 32 * l.room + 1

abbrev pub decreases-packed_structure : goal.decreases-packed_structure
decreases-packed_structure l = 32 * l.room + 2

abbrev pub decreases-denoter : goal.decreases-denoter
decreases-denoter l = 32 * l.room + 3

abbrev pub decreases-section : goal.decreases-section
decreases-section l = 32 * l.room + 4

abbrev pub decreases-variant : goal.decreases-variant
decreases-variant l = 32 * l.room + 9

abbrev pub decreases-further_variants : goal.decreases-further_variants
decreases-further_variants l = 32 * l.room + 11

abbrev pub decreases-variants : goal.decreases-variants
decreases-variants l = 32 * l.room + 12

abbrev pub decreases-variant_part : goal.decreases-variant_part
decreases-variant_part l = 32 * l.room + 0

abbrev pub decreases-last_fields : goal.decreases-last_fields
decreases-last_fields l = 32 * l.room + 1

abbrev pub decreases-further_fields : goal.decreases-further_fields
decreases-further_fields l = 32 * l.room + 6

abbrev pub decreases-fixed_fields : goal.decreases-fixed_fields
decreases-fixed_fields l = 32 * l.room + 7

abbrev pub decreases-field_list : goal.decreases-field_list
decreases-field_list l = 32 * l.room + 8

abbrev pub invariant-further_variants-variants : goal.invariant-further_variants-variants
invariant-further_variants-variants l =
    further_variants (field_list l.room) l.fn.first l.fn.tokens ≡ series (Symbol s.Semicolon) constant_begins (further_variant (field_list l.room))
    (l._turn-end - l._turn) l.found l.tokens

abbrev pub invariant-further_fields-sections : goal.invariant-further_fields-sections
invariant-further_fields-sections l =
    further_fields l.room (behind l.room) l.fn.first l.fn.tokens ≡ series_and_last (Symbol s.Semicolon) (is next.Identifier)
    (further_section l.room (behind l.room)) (last_fields l.room (behind l.room)) (λ found. d.Fields found None) (l._turn-end - l._turn) l.found l.tokens
