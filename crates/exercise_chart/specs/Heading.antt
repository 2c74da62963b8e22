-- The part of a picture above the rows: title, style, signs and legend (profile).
use Rattle.std.specs.Prelude.{ℕ, ◌-◌, List, [], ◌∷◌, ◌++◌, length, codes, decimal, nat_lt, if◌then◌else◌}
use Rattle.exercise_model.specs.Recording.{PlainRecording}
use Rattle.exercise_chart.specs.Element.{element_text, number, word}
use Rattle.exercise_chart.specs.Sheets.{sheets_of}
use Rattle.exercise_chart.specs.Frame.{FrameData, width_of, height_of}

-- the size of the picture, and the number of sheets that it is printed on
abbrev pub size_text : FrameData → List ℕ
size_text f =
    codes "<svg xmlns=\"http://www.w3.org/2000/svg\" width=\"" ++ decimal (width_of f) ++ codes "\" height=\"" ++ decimal (height_of f) ++ codes "\""

abbrev pub print_text : FrameData → List ℕ
print_text f =
    codes " style=\"--sheets:" ++ decimal (sheets_of f)
    ++ codes "\" font-family=\"Helvetica,Arial,sans-serif\" font-size=\"11\">\n"

-- the start tag of the picture
unfoldable pub opening_text : FrameData → List ℕ
opening_text f = size_text f ++ print_text f

-- how many stations have columns, if not all have
abbrev pub kept_words : (kept stations : ℕ) → List ℕ
kept_words kept stations = if nat_lt kept stations then codes " (" ++ decimal kept ++ codes " shown)" else []

-- the number of blocked rows, if there are any
abbrev pub blocked_words : (blocked : ℕ) → List ℕ
blocked_words blocked = if nat_lt 0 blocked then codes ", then " ++ decimal blocked ++ codes " blocked" else []

-- the number of stations and entries, and the range of shown steps
unfoldable pub counts_text : FrameData → PlainRecording → List ℕ
counts_text f r =
    decimal (length r.setting.stations) ++ codes " stations" ++ kept_words f.kept (length r.setting.stations) ++ codes ", "
    ++ decimal (length r.entries) ++ codes " entries, " ++ decimal (f.rows.end - f.rows.first) ++ codes " steps from step "
    ++ decimal f.rows.first ++ codes " on" ++ blocked_words f.blocked

abbrev pub title_text : PlainRecording → List ℕ
title_text r = codes "<title>Exercise " ++ decimal r.setting.exercise ++ codes "</title>\n<desc>"

-- TITLE AND DESCRIPTION, for readers who do not see the picture
unfoldable pub about_text : FrameData → PlainRecording → List ℕ
about_text f r =
    title_text r ++ counts_text f r
    ++ codes ". Stations are columns, steps are rows, from above; behind each row stands its entry in words.</desc>\n"

-- THE STYLE in print, and for readers who prefer dark colours: each colour has a substitute
unfoldable pub style_text : List ℕ
style_text =
    codes "<style>\n"
    ++ codes "#sheets{display:none}\n"
    ++ codes "@page{size:landscape;margin:10mm}\n"
    ++ codes "@media print{:root{width:100%;height:calc(100vh*var(--sheets));font-size:13px}#screen{display:none}#sheets{display:inline}}\n"
    ++ codes "@media (prefers-color-scheme:dark){\n"
    ++ codes "[fill=\"#1d4ed8\"]{fill:#93c5fd}[stroke=\"#1d4ed8\"]{stroke:#93c5fd}\n"
    ++ codes "[fill=\"#15803d\"]{fill:#86efac}[stroke=\"#15803d\"]{stroke:#86efac}\n"
    ++ codes "[fill=\"#c2410c\"]{fill:#fdba74}[stroke=\"#c2410c\"]{stroke:#fdba74}\n"
    ++ codes "[fill=\"#475569\"]{fill:#cbd5e1}[stroke=\"#475569\"]{stroke:#cbd5e1}\n"
    ++ codes "[fill=\"#7c3aed\"]{fill:#c4b5fd}[stroke=\"#7c3aed\"]{stroke:#c4b5fd}\n"
    ++ codes "[fill=\"#ffffff\"]{fill:#111827}[stroke=\"#ffffff\"]{stroke:#111827}\n"
    ++ codes "[fill=\"#1f2933\"]{fill:#e5e7eb}[stroke=\"#1f2933\"]{stroke:#e5e7eb}\n"
    ++ codes "[fill=\"#94a3b8\"]{fill:#64748b}[stroke=\"#94a3b8\"]{stroke:#64748b}\n"
    ++ codes "[fill=\"#e2e8f0\"]{fill:#1f2937}[stroke=\"#e2e8f0\"]{stroke:#1f2937}\n"
    ++ codes "[fill=\"#fbbf24\"]{fill:#b45309}[stroke=\"#fbbf24\"]{stroke:#b45309}\n"
    ++ codes "[fill=\"#4ade80\"]{fill:#15803d}[stroke=\"#4ade80\"]{stroke:#15803d}\n"
    ++ codes "[fill=\"#dc2626\"]{fill:#f87171}[stroke=\"#dc2626\"]{stroke:#f87171}\n"
    ++ codes "}\n"
    ++ codes "</style>\n"

-- THE DEFINITIONS of arrow heads, the cross of a loss, the signs, and of the lines
-- of the picture, as the sheets show them
unfoldable pub signs_text : List ℕ
signs_text =
    codes "<defs>\n"
    ++ codes "<marker id=\"to-request\" viewBox=\"0 0 8 8\" refX=\"8\" refY=\"4\" markerWidth=\"8\" markerHeight=\"8\" markerUnits=\"userSpaceOnUse\" orient=\"auto\"><path d=\"M0 0L8 4L0 8z\" fill=\"#1d4ed8\"/></marker>\n"
    ++ codes "<marker id=\"to-able\" viewBox=\"0 0 8 8\" refX=\"8\" refY=\"4\" markerWidth=\"8\" markerHeight=\"8\" markerUnits=\"userSpaceOnUse\" orient=\"auto\"><path d=\"M0 0L8 4L0 8z\" fill=\"#15803d\"/></marker>\n"
    ++ codes "<marker id=\"to-unable\" viewBox=\"0 0 8 8\" refX=\"8\" refY=\"4\" markerWidth=\"8\" markerHeight=\"8\" markerUnits=\"userSpaceOnUse\" orient=\"auto\"><path d=\"M0 0L8 4L0 8z\" fill=\"#c2410c\"/></marker>\n"
    ++ codes "<marker id=\"to-other\" viewBox=\"0 0 8 8\" refX=\"8\" refY=\"4\" markerWidth=\"8\" markerHeight=\"8\" markerUnits=\"userSpaceOnUse\" orient=\"auto\"><path d=\"M0 0L8 4L0 8z\" fill=\"#475569\"/></marker>\n"
    ++ codes "<marker id=\"to-notice\" viewBox=\"0 0 8 8\" refX=\"8\" refY=\"4\" markerWidth=\"8\" markerHeight=\"8\" markerUnits=\"userSpaceOnUse\" orient=\"auto\"><path d=\"M0 0L8 4L0 8z\" fill=\"#7c3aed\"/></marker>\n"
    ++ codes "<marker id=\"lost\" viewBox=\"0 0 12 12\" refX=\"6\" refY=\"6\" markerWidth=\"12\" markerHeight=\"12\" markerUnits=\"userSpaceOnUse\"><path d=\"M2 2L10 10M2 10L10 2\" fill=\"none\" stroke=\"#dc2626\" stroke-width=\"2\"/></marker>\n"
    ++ codes "<circle id=\"sent\" r=\"4\"/>\n"
    ++ codes "<rect id=\"other\" x=\"-4\" y=\"-4\" width=\"8\" height=\"8\"/>\n"
    ++ codes "<path id=\"told\" d=\"M0 -6L6 0L0 6L-6 0z\" stroke=\"#1f2933\" stroke-width=\"2\"/>\n"
    ++ codes "<g id=\"unanswered\" stroke=\"#dc2626\" stroke-width=\"2\"><circle r=\"6\"/><path d=\"M-3 -3L3 3\"/></g>\n"
    ++ codes "<path id=\"blocked\" d=\"M-2 -6h4l4 4v4l-4 4h-4l-4 -4v-4z\"/>\n"
    ++ codes "<marker id=\"drawn\" markerUnits=\"userSpaceOnUse\" overflow=\"visible\"><use href=\"#lines\"/></marker>\n"
    ++ codes "</defs>\n"

-- the white background
unfoldable pub paper_text : FrameData → List ℕ
paper_text f =
    element_text (codes "rect") (number (codes "width") (width_of f) ∷ number (codes "height") (height_of f) ∷ word (codes "fill") (codes "#ffffff") ∷ [])

abbrev pub caption_begin : List ℕ
caption_begin = codes "<g id=\"screen\">\n<g id=\"heading\" fill=\"#1f2933\">\n<text x=\"24\" y=\"28\" font-size=\"18\" font-weight=\"bold\">"

abbrev pub name_text : PlainRecording → List ℕ
name_text r = codes "Exercise " ++ decimal r.setting.exercise ++ codes "</text>\n<text x=\"24\" y=\"48\">"

-- THE CAPTION inside the picture: exercise number and counts
unfoldable pub caption_text : FrameData → PlainRecording → List ℕ
caption_text f r = caption_begin ++ name_text r ++ counts_text f r ++ codes "</text>\n"

-- THE LEGEND of colours and signs
unfoldable pub legend_text : List ℕ
legend_text =
    codes "<line x1=\"24\" y1=\"68\" x2=\"48\" y2=\"68\" stroke=\"#1d4ed8\" stroke-width=\"2\" marker-end=\"url(#to-request)\"/><text x=\"56\" y=\"72\">request</text>\n"
    ++ codes "<line x1=\"112\" y1=\"68\" x2=\"136\" y2=\"68\" stroke=\"#15803d\" stroke-width=\"2\" marker-end=\"url(#to-able)\"/><text x=\"144\" y=\"72\">able, complete, data</text>\n"
    ++ codes "<line x1=\"274\" y1=\"68\" x2=\"298\" y2=\"68\" stroke=\"#c2410c\" stroke-width=\"2\" marker-end=\"url(#to-unable)\"/><text x=\"306\" y=\"72\">unable, rejected</text>\n"
    ++ codes "<line x1=\"414\" y1=\"68\" x2=\"438\" y2=\"68\" stroke=\"#475569\" stroke-width=\"2\" marker-end=\"url(#to-other)\"/><text x=\"446\" y=\"72\">other answer</text>\n"
    ++ codes "<line x1=\"534\" y1=\"68\" x2=\"558\" y2=\"68\" stroke=\"#7c3aed\" stroke-width=\"2\" marker-end=\"url(#to-notice)\"/><text x=\"566\" y=\"72\">report, comment</text>\n"
    ++ codes "<line x1=\"24\" y1=\"88\" x2=\"42\" y2=\"88\" stroke=\"#1d4ed8\" stroke-width=\"2\" stroke-dasharray=\"2 3\" marker-end=\"url(#lost)\"/><text x=\"56\" y=\"92\">not received there</text>\n"
    ++ codes "<use href=\"#unanswered\" x=\"184\" y=\"88\" fill=\"#ffffff\"/><text x=\"198\" y=\"92\">never answered there</text>\n"
    ++ codes "<use href=\"#told\" x=\"344\" y=\"88\" fill=\"#ffffff\"/><text x=\"358\" y=\"92\">state told</text>\n"
    ++ codes "<use href=\"#other\" x=\"440\" y=\"88\" fill=\"#475569\"/><text x=\"452\" y=\"92\">means nothing</text>\n"
    ++ codes "<rect x=\"554\" y=\"82\" width=\"8\" height=\"12\" fill=\"#fbbf24\"/><text x=\"568\" y=\"92\">stopped</text>\n"
    ++ codes "<rect x=\"630\" y=\"82\" width=\"8\" height=\"12\" fill=\"#4ade80\"/><text x=\"644\" y=\"92\">running</text>\n"
    ++ codes "<use href=\"#blocked\" x=\"670\" y=\"68\" fill=\"#dc2626\"/><text x=\"680\" y=\"72\">blocked</text>\n"
    ++ codes "</g>\n"

unfoldable pub heading_text : FrameData → PlainRecording → List ℕ
heading_text f r = opening_text f ++ about_text f r ++ style_text ++ signs_text ++ paper_text f ++ caption_text f r ++ legend_text
