-- The description of what control answers (OpenAPI 3.0.3).
use Rattle.std.specs.Prelude.{ℕ, List, ◌++◌, length, codes}
use Rattle.http_edge.specs.Response.{head_text}
use Rattle.http_edge.specs.declared.head.Form.TheVariants.{Plain}
use Rattle.json_answer.specs.declared.asking.Terms.{Terms}

unfoldable pub description : List ℕ
description =
    codes "openapi: 3.0.3\n"
    ++ codes "info: {title: enginelab control, version: 1.0.0}\n"
    ++ codes "paths:\n"
    ++ codes "  /clock:\n"
    ++ codes "    get:\n"
    ++ codes "      summary: the moment, in milliseconds since 1970\n"
    ++ codes "      responses:\n"
    ++ codes "        '200': {description: the moment, content: {application/json: {schema: {$ref: '#/components/schemas/Moment'}}}}\n"
    ++ codes "    post:\n"
    ++ codes "      summary: moves the clock, to a moment or by so many milliseconds\n"
    ++ codes "      parameters:\n"
    ++ codes "        - {name: to, in: query, schema: {type: integer}}\n"
    ++ codes "        - {name: by, in: query, schema: {type: integer}}\n"
    ++ codes "      responses:\n"
    ++ codes "        '200': {description: the moment then, content: {application/json: {schema: {$ref: '#/components/schemas/Moment'}}}}\n"
    ++ codes "        '400': {description: the move is refused, and nothing changed}\n"
    ++ codes "  /journal:\n"
    ++ codes "    get:\n"
    ++ codes "      summary: the daemon's journal, in lines of JSON\n"
    ++ codes "      responses:\n"
    ++ codes "        '200': {description: the journal}\n"
    ++ codes "  /openapi.yaml:\n"
    ++ codes "    get:\n"
    ++ codes "      summary: this text\n"
    ++ codes "      responses:\n"
    ++ codes "        '200': {description: this text}\n"
    ++ codes "  /stop:\n"
    ++ codes "    post:\n"
    ++ codes "      summary: ends the program\n"
    ++ codes "      responses:\n"
    ++ codes "        '200': {description: the program ends}\n"
    ++ codes "components:\n"
    ++ codes "  schemas:\n"
    ++ codes "    Moment: {type: object, required: [moment], properties: {moment: {type: integer}}}\n"

-- its head, and the text
abbrev pub description_answer : Terms → List ℕ
description_answer terms =
    head_text (record { status = 200; form = Plain (length description); close = terms.close }) ++ description
